-- The map of a sweep as a page (this project's profile).
use Rattle.std.specs.Prelude.{ℕ, ℤ, Bool, true, false, List, [], ◌++◌, codes, take, drop, Option, Some, None}
use Rattle.std.specs.List.{flat_map}
use Rattle.std.specs.Fmt.{decimal, signed_decimal}
use Rattle.wl_page.specs.Page.{with_part}
use Rattle.wl_sweep.specs.declared.options.Options.{Options}
use Rattle.wl_sweep.specs.declared.range.SweptRange.{SweptRange}
use Rattle.wl_sweep.specs.declared.sweep.Sweep.{Sweep}
use Rattle.wl_sweep.specs.Sweeps.{all_rows}
use Rattle.wl_map.specs.declared.template.TheConstants.{HEAD, TO_CELLS, SCRIPT}
use Rattle.wl_map.specs.Cells.{cell_of_row}
use Rattle.wl_map.specs.Rows.{held, row_alone}

-- the words of the command line that ask for these options
abbrev pub step_words : Option ℕ → List ℕ
step_words None = []
step_words (Some step) = codes " --step " ++ decimal step

abbrev pub flag_words : List ℕ → Bool → List ℕ
flag_words flag true = flag
flag_words flag false = []

abbrev pub counts_words : Options → List ℕ
counts_words o = (codes "options --runs " ++ (decimal o.runs ++ (codes " --seed " ++ decimal o.seed))) ++ step_words o.step

abbrev pub flags_words : Options → Bool → List ℕ
flags_words o worst =
    flag_words (codes " --keep-offsets") o.keep_offsets ++ flag_words (codes " --keep-ppm") o.keep_ppm ++ flag_words (codes " --worst") worst

abbrev pub options_line : Options → Bool → List ℕ
options_line o worst = counts_words o ++ flags_words o worst ++ codes "\n"

-- a range by its name, with its values
abbrev pub axis_value : ℤ → List ℕ
axis_value value = codes " " ++ signed_decimal value

abbrev pub range_line : List ℕ → SweptRange → List ℕ
range_line label range = (label ++ range.called) ++ flat_map axis_value range.values ++ codes "\n"

abbrev pub range_lines : List ℕ → List SweptRange → List ℕ
range_lines label ranges = flat_map (range_line label) ranges

-- the options, the ranges that are varied, and those that are held
abbrev pub axes_text : Sweep → Bool → List ℕ
axes_text s worst =
    options_line s.options worst ++ range_lines (codes "axis ") (take 2 s.ranges) ++ range_lines (codes "held ") (drop 2 s.ranges)

-- the cell of a row
abbrev pub cell_in : Sweep → ℕ → List ℕ
cell_in s row = cell_of_row (row_alone s row)

-- a cell for each row, in order
abbrev pub cells_text : Sweep → List ℕ
cells_text s = flat_map (cell_in s) (all_rows s)

-- both texts of the sweep that is held, each once and whole, within the layout; the script comes last
unfoldable pub map_text : Sweep → Bool → List ℕ
map_text s worst = with_part (with_part [] HEAD.now (axes_text (held s) worst)) TO_CELLS.now (cells_text (held s)) ++ SCRIPT.now
