use Rattle.std.proofs.Common.{◌∙◌, string_bytes}
use Rattle.wl_engines.specs.Paged.{IsPage}
use Rattle.wl_engines.proofs.PageProofs.{ok_so, same_page}
use Rattle.wl_engines.proofs.run_page.page_of_bus.Goals as goal

-- each text is that of its definition
pub returns : goal.returns
unfolding IsPage
returns c =
    let known = c.in_ok-known.ensures in
    let run = c.in_ok-run.ensures in
    let figures = c.as_bytes.ensures.value in
    let settings = c.as_bytes-2.ensures.value in
    let margin = c.as_bytes-3.ensures.value in
    let traffic = c.as_bytes-4.ensures.value in
    let report = c.deref.ensures.value ∙ run.1 in
    let part = c.as_bytes-5.ensures.value ∙ run.2 in
    let trace = c.deref-2.ensures.value ∙ run.3 in
    let wave = c.deref-3.ensures.value ∙ run.4 in
    let same = same_page c.args.text.now figures settings margin traffic report part trace wave in
    ok_so c.page.result
    (λ whole is. (
      c.in_ok-plain.plain,
      string_bytes c.in_ok-known.known.figures,
      string_bytes c.in_ok-known.known.settings,
      string_bytes c.in_ok-known.known.margin,
      string_bytes c.in_ok-run.run'.traffic,
      c.in_ok-plain.ensures,
      known.0,
      known.1,
      known.2,
      run.0,
      is ∙ same,
    )) c.page.ensures
