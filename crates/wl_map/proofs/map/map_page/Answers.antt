use Rattle.std.proofs.Common.{◌∙◌, refl}
use Rattle.wl_map.specs.Maps.{map_text}
use Rattle.wl_map.proofs.map.map_page.Goals as goal

-- each call adds its part to what the calls before it left
pub returns-clause-page : goal.returns-clause-page
unfolding map_text
returns-clause-page g c =
    rw c.in_ok-extend_from_slice.ensures.items
    rw c.as_bytes-3.ensures.value
    rw c.in_ok-push_part-2.ensures
    rw (c.as_bytes-2.ensures.value ∙ c.in_ok-axes.ensures.cells)
    rw c.in_ok-push_part.ensures
    rw (c.as_bytes.ensures.value ∙ c.in_ok-axes.ensures.axes)
    rw c.new-page.ensures.items
    refl
