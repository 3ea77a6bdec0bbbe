use Rattle.std.proofs.Common.{◌∙◌, is_some}
use Rattle.toml.specs.Data.{as_table}
use Rattle.wl_setup.specs.Kinds.{byte_in}
use Rattle.wl_setup.proofs.ValueLemmas.{each_holds}
use Rattle.wl_setup.proofs.values.has_kind.Goals as goal

pub returns-in-Some : goal.returns-in-Some
returns-in-Some c = rw c.in-Bytes.is (c.are_bytes.ensures ∙ each_holds (λ e. is_some (byte_in e)) _ _ c.in-Some.ensures)

pub returns-in-Some-elements_of : goal.returns-in-Some-elements_of
returns-in-Some-elements_of c =
    rw c.in-Tables.is (c.are_tables.ensures ∙ each_holds (λ e. is_some (as_table e)) _ _ c.in-Some-elements_of.ensures)
