use Rattle.std.proofs.Common.{◌++◌, codes, string_bytes}
use Rattle.std.proofs.lemmas.Result.{IfOk-equal}
use Rattle.wl_map.specs.Maps.{flag_words, flags_words}
use Rattle.wl_map.proofs.Growing.{three_pieces}
use Rattle.wl_map.proofs.axes.push_flags.Goals as goal

pub returns : goal.returns
returns c =
    let o = c.args.options in
    let old = string_bytes c.args.text.now in
    let offsets = flag_words (codes " --keep-offsets") o.keep_offsets in
    let signs = flag_words (codes " --keep-ppm") o.keep_ppm in
    let frames = flag_words (codes " --worst") c.args.worst in
    IfOk-equal c.push_flag-3.result (string_bytes c.push_flag-3.new.text) (string_bytes c.push_flag-2.new.text ++ frames) (old ++ flags_words o c.args.worst)
    c.push_flag-3.ensures
    (three_pieces old offsets signs frames (string_bytes c.push_flag.new.text) (string_bytes c.push_flag-2.new.text) c.in_ok-push_flag.ensures c.in_ok-push_flag-2.ensures)
