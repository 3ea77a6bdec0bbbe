-- What a group emits is given: nothing at first, in each turn what it emitted there, and after a restart it has emitted nothing.
use Rattle.std.proofs.Common.{◌≡◌, ◌∙◌, ℕ, Bool, List, [], ◌++◌, inl, inr, ap, refl, sym, append_assoc, append-nil}
use Rattle.wl_record_core.specs.declared.record.Record.{Record}
use Rattle.wl_plan.specs.declared.plan.Plan.{Plan}
use Rattle.wl_group.specs.GroupValue.{GroupValue, initial_group}
use Rattle.wl_group.specs.Going.{HasGoneOn}
use Rattle.wl_worker.specs.Given.{none, more, GaveMore, GaveSince}
use Rattle.wl_worker.specs.Handed.{Took}

pub gave_nothing : {L : Type 0} (gave : L → L → List Record → Type 0) (g : GroupValue) → GaveSince gave g g
gave_nothing gave g = record { before = g.emitted; given = []; begun = inl refl; emitted = sym (append-nil g.emitted); all = none }

pub gave_anew : {L : Type 0} (gave : L → L → List Record → Type 0) (old new : GroupValue) (lists : Bool) (plan : Plan) (chosen : ℕ → Bool) → new ≡ initial_group lists plan chosen → GaveSince gave old new
gave_anew gave old new lists plan chosen e = record { before = []; given = []; begun = inr refl; emitted = ap (λ (g : GroupValue). g.emitted) e; all = none }

pub gave_more : {L : Type 0} (gave : L → L → List Record → Type 0) (old mid new : GroupValue) → GaveSince gave old mid → GaveMore gave mid new → GaveSince gave old new
gave_more gave old mid new since turn = record {
  before = since.before;
  given = since.given ++ turn.said;
  begun = since.begun;
  emitted = turn.emitted ∙ (ap (λ rs. rs ++ turn.said) since.emitted ∙ append_assoc since.before since.given turn.said);
  all = more turn.from turn.to since.all turn.given;
}

-- a fetch emits nothing
pub took_emitted : (old new : GroupValue) → Took old new → new.emitted ≡ old.emitted
took_emitted old new t = ap (λ (g : GroupValue). g.emitted) t.taken

-- a row of quanta emits what it says
pub gone_emitted : (i : ℕ) (old new : GroupValue) (rs : List Record) → HasGoneOn i old new rs → new.emitted ≡ old.emitted ++ rs
gone_emitted i old new rs h = ap (λ (g : GroupValue). g.emitted) h.new_is

-- and that is appended to what was said before
pub said_more : (old new : GroupValue) (said said' rest before : List Record) → said' ≡ said ++ rest → new.emitted ≡ old.emitted ++ rest
    → old.emitted ≡ before ++ said → new.emitted ≡ before ++ said'
said_more old new said said' rest before e n o =
    n ∙ (ap (λ rs. rs ++ rest) o ∙ (append_assoc before said rest ∙ ap (λ rs. before ++ rs) (sym e)))
