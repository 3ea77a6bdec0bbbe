-- Nothing was seen.
use Rattle.std.proofs.Common.{◌∙◌, ap, map, refl, List}
use Rattle.wl_node.specs.declared.setup.Queued.{Queued}
use Rattle.wl_traffic.specs.Entries.{waiting_entry}
use Rattle.wl_traffic.proofs.watch.Watch.new.Goals as goal

pub returns : goal.returns
returns c = record {
  kept = c.in_ok-new.ensures;
  entries = c.in_ok-waiting_entries.ensures ∙ ap (λ (qs : List Queued). map waiting_entry qs) c.as_slice.ensures;
  joining = c.new-2.ensures;
  last = refl;
  found = c.new-3.ensures c.args.setup.now;
  trouble = c.new-4.ensures c.args.setup.now;
}
