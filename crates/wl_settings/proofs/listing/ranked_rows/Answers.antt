use Rattle.std.proofs.Common.{subst, sym, filter, map, List}
use Rattle.std.proofs.lemmas.List.Sorted.{All-permutation, IsPermutation-map}
use Rattle.std.specs.List.Sorted.{IsPermutation}
use Rattle.wl_settings.specs.Judged.{IsRow, works}
use Rattle.wl_settings.specs.declared.asked.Setting.{Setting}
use Rattle.wl_settings.specs.declared.judged.WorkingSetting.{WorkingSetting}
use Rattle.wl_settings.specs.Rankings.{IsRanking}
use Rattle.wl_settings.proofs.listing.ranked_rows.Goals as goal

pub returns : goal.returns
returns c = subst (IsRanking c.args.asked.now c.args.controller.now (filter (works c.args.asked.now c.args.controller.now) c.args.settings.now))
    (sym c.from_vec.ensures) (record {
      settings = subst (λ (all : List Setting). IsPermutation all (map (λ (r : WorkingSetting). r.setting) c.sort_rows.new.rows.items)) c.in_ok-rows.ensures.settings
          (IsPermutation-map (λ r. r.setting) c.in_ok-rows.rows.items c.sort_rows.new.rows.items c.in_ok-sort_rows.ensures.rows);
      figures = All-permutation (IsRow c.args.asked.now c.args.controller.now) c.in_ok-rows.rows.items c.sort_rows.new.rows.items c.in_ok-sort_rows.ensures.rows c.in_ok-rows.ensures.figures;
      order = c.in_ok-sort_rows.ensures.order;
    })
