-- When two frames are equal: where they carry the same, which is this project's profile.
use Rattle.std.specs.Prelude.{◌≡◌, ◌==◌, ◌&&◌, Bool, nat_eq}
use Rattle.std.specs.Bool.{Decides, beq}
use Rattle.std.specs.Cmp.{IsEquivalence, IsPartialEquivalence, decided, partial_equiv_from_equiv, booleans_Decides, unsigned_Decides}
use Rattle.std.specs.Cmp.Lexicographic.{pointwise, bytes_decides}
use Rattle.std.proofs.lemmas.Bool.Decides.{Decides-and, Decides-like}
use Rattle.wl_frame.specs.Grammar.{Content}

-- the test whether two contents are the same: field by field
unfoldable pub same_content : Content → Content → Bool
same_content a b = beq a.extended b.extended && a.id == b.id && beq a.remote b.remote && a.dlc == b.dlc && pointwise nat_eq a.bytes b.bytes

pub content_decides : (a b : Content) → Decides (same_content a b) (a ≡ b)
unfolding same_content
content_decides a b =
    Decides-like (same_content a b)
    (λ e i. record { extended = e.0.0.0.0 i; id = e.0.0.0.1 i; remote = e.0.0.1 i; dlc = e.0.1 i; bytes = e.1 i })
    (λ e. ((((λ i. (e i).extended, λ i. (e i).id), λ i. (e i).remote), λ i. (e i).dlc), λ i. (e i).bytes))
    (Decides-and (beq a.extended b.extended && a.id == b.id && beq a.remote b.remote && a.dlc == b.dlc) (pointwise nat_eq a.bytes b.bytes)
    (Decides-and (beq a.extended b.extended && a.id == b.id && beq a.remote b.remote) (a.dlc == b.dlc)
    (Decides-and (beq a.extended b.extended && a.id == b.id) (beq a.remote b.remote)
    (Decides-and (beq a.extended b.extended) (a.id == b.id) (booleans_Decides a.extended b.extended) (unsigned_Decides a.id b.id))
    (booleans_Decides a.remote b.remote))
    (unsigned_Decides a.dlc b.dlc))
    (bytes_decides a.bytes b.bytes))

pub same_content_equiv : IsEquivalence same_content
same_content_equiv = decided same_content content_decides

pub same_content_laws : IsPartialEquivalence same_content
same_content_laws = partial_equiv_from_equiv same_content_equiv
