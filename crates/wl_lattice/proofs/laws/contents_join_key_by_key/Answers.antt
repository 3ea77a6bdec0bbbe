use Rattle.wl_lattice.proofs.laws.contents_join_key_by_key.Goals as goal

pub returns : goal.returns
returns g c = record {
  commutes = λ a b i q. g.met.S.Word.Join.laws.commutes (a q) (b q) i;
  associates = λ a b d i q. g.met.S.Word.Join.laws.associates (a q) (b q) (d q) i;
  idempotent = λ a i q. g.met.S.Word.Join.laws.idempotent (a q) i;
  neutral = λ a h i q. g.met.S.Word.Join.laws.neutral (a q) (h q) i;
}
