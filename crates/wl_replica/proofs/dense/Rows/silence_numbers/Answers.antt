use Rattle.std.proofs.Common.{◌≡◌, ap, ◌∙◌, arith}
use Rattle.std.specs.List.{filter_map}
use Rattle.std.specs.FinMap.{entries}
use Rattle.wl_lattice.specs.declared.MaxWord.{MaxWord}
use Rattle.wl_lattice.specs.Words.{max_word}
use Rattle.wl_replica.specs.State.{State, silence_at}
use Rattle.wl_replica.specs.Canonical.{silence_record, of_node}
use Rattle.wl_replica.proofs.States.{silence_maps}
use Rattle.wl_replica.proofs.Tells.{tells_silence}
use Rattle.wl_replica.proofs.CanonicalLemmas.{no_silence}
use Rattle.wl_replica.proofs.DenseShown.{row_words, row_records}
use Rattle.wl_replica.proofs.dense.Rows.silence_numbers.Goals as goal

pub numbers_of-requires : goal.numbers_of-requires
numbers_of-requires c =
    let same : c.self.inside.nodes ≡ c.args.self.now.nodes = ap (λ (s : State). s.nodes) c.self.view_is in
    omega (arith, c.requires, c.self.invariant.silence_rows, same)

pub returns-clause-words : goal.returns-clause-words
returns-clause-words c n = ap (λ (w : MaxWord). w.word) (row_words max_word silence_maps tells_silence c.self.inside.silences.rows.items c.args.node c.numbers_of.result.now c.numbers_of.ensures.value n ∙ ap (λ (s : State). silence_at s (c.args.node, n)) c.self.view_is)

pub returns-clause-records : goal.returns-clause-records
returns-clause-records c =
    row_records max_word silence_maps tells_silence c.self.inside.silences.rows.items c.args.node c.numbers_of.result.now c.numbers_of.ensures.value silence_record no_silence
    ∙ ap (λ (s : State). filter_map silence_record (of_node c.args.node (entries s.silences))) c.self.view_is
