-- The page of a run: texts within a layout (this project's profile; HTML Living Standard, 13.1.4 character references).
use Rattle.std.specs.Prelude.{ℕ, List, [], ◌∷◌, ◌++◌, ◌==◌, if◌then◌else◌, codes}
use Rattle.std.specs.List.{flat_map}
use Rattle.wl_page.specs.declared.texts.Texts.{Texts}
use Rattle.wl_page.specs.declared.template.TheConstants.{HEAD, TO_SETTINGS, TO_MARGIN, TO_TRAFFIC, TO_REPORT, TO_PLAN, TO_PART, TO_TRACE, TO_WAVE, TO_SCRIPT}
use Rattle.wl_page.specs.declared.reading.TheConstants.{READING}
use Rattle.wl_page.specs.declared.drawing.TheConstants.{DRAWING}
use Rattle.wl_page.specs.declared.moving.TheConstants.{MOVING}
use Rattle.wl_page.specs.declared.tables.TheConstants.{TABLES}

-- a byte as text within HTML: `&`, `<`, `>` and a carriage return are references to the character, which a browser shows as the byte
abbrev pub escaped_byte : ℕ → List ℕ
escaped_byte byte =
    if byte == 38 then codes "&amp;"
    else if byte == 60 then codes "&lt;"
    else if byte == 62 then codes "&gt;"
    else if byte == 13 then codes "&#13;"
    else byte ∷ []

abbrev pub escaped : List ℕ → List ℕ
escaped bytes = flat_map escaped_byte bytes

-- a page so far, and a part of the layout and a text after it
abbrev pub with_part : List ℕ → List ℕ → List ℕ → List ℕ
with_part page layout text = page ++ (layout ++ escaped text)

-- a page so far, and the script with the end of the page
abbrev pub with_script : List ℕ → List ℕ
with_script page = ((((page ++ TO_SCRIPT.now) ++ READING.now) ++ DRAWING.now) ++ MOVING.now) ++ TABLES.now

-- the texts of a run
pub record PageTexts : Type 0 where
  pub figures : List ℕ
  pub settings : List ℕ
  pub margin : List ℕ
  pub traffic : List ℕ
  pub report : List ℕ
  pub plan : List ℕ
  pub part : List ℕ
  pub trace : List ℕ
  pub wave : List ℕ

-- each text once and whole, after its part of the layout; the script comes last
unfoldable pub page_of : PageTexts → List ℕ
page_of texts =
    let to_figures = with_part [] HEAD.now texts.figures in
    let to_settings = with_part to_figures TO_SETTINGS.now texts.settings in
    let to_margin = with_part to_settings TO_MARGIN.now texts.margin in
    let to_traffic = with_part to_margin TO_TRAFFIC.now texts.traffic in
    let to_report = with_part to_traffic TO_REPORT.now texts.report in
    let to_plan = with_part to_report TO_PLAN.now texts.plan in
    let to_part = with_part to_plan TO_PART.now texts.part in
    let to_trace = with_part to_part TO_TRACE.now texts.trace in
    with_script (with_part to_trace TO_WAVE.now texts.wave)

-- the texts that are handed over
abbrev pub texts_of : Texts → PageTexts
texts_of t = record {
  figures = t.figures.now;
  settings = t.settings.now;
  margin = t.margin.now;
  traffic = t.traffic.now;
  report = t.report.now;
  plan = t.plan.now;
  part = t.part.now;
  trace = t.trace.now;
  wave = t.wave.now;
}
