use Rattle.std.proofs.Common.{refl}
use Rattle.wl_page.specs.Page.{page_of}
use Rattle.wl_page.proofs.texts.page.Goals as goal

-- each call adds its part to what the calls before it left
pub returns : goal.returns
unfolding page_of
returns c =
    rw c.in_ok-push_script.ensures
    rw c.in_ok-push_part-9.ensures
    rw c.in_ok-push_part-8.ensures
    rw c.in_ok-push_part-7.ensures
    rw c.in_ok-push_part-6.ensures
    rw c.in_ok-push_part-5.ensures
    rw c.in_ok-push_part-4.ensures
    rw c.in_ok-push_part-3.ensures
    rw c.in_ok-push_part-2.ensures
    rw c.in_ok-push_part.ensures
    rw c.new-page.ensures.items
    refl
