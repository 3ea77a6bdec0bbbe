use Rattle.std.proofs.Common.{ℕ, List, ◌++◌, codes, string_bytes}
use Rattle.wl_margin.proofs.Callers.{grown, grown_ok}
use Rattle.wl_spikes.specs.Words.{class_words}
use Rattle.wl_spikes.proofs.text.push_classes.Goals as goal

pub returns : goal.returns
returns c =
    let t = c.args.tally in
    let b0 = string_bytes c.args.text.now in
    let b1 = string_bytes c.push_class.new.text in
    let b2 = string_bytes c.push_class-2.new.text in
    let b3 = string_bytes c.push_class-3.new.text in
    let b4 = string_bytes c.push_class-4.new.text in
    let b5 = string_bytes c.push_class-5.new.text in
    let b6 = string_bytes c.push_class-6.new.text in
    let w1 : List ℕ = class_words (codes "healed") t.healed in
    let w2 : List ℕ = class_words (codes "late") t.late in
    let w3 : List ℕ = class_words (codes "unhealed") t.unhealed in
    let w4 : List ℕ = class_words (codes "twice") t.twice in
    let w5 : List ℕ = class_words (codes "missed") t.missed in
    let w6 : List ℕ = class_words (codes "bus off") t.off in
    let w7 : List ℕ = class_words (codes "refused") t.refused in
    let to2 = grown b0 b1 b2 w1 w2 c.in_ok-push_class.ensures c.in_ok-push_class-2.ensures in
    let to3 = grown b0 b2 b3 (w1 ++ w2) w3 to2 c.in_ok-push_class-3.ensures in
    let to4 = grown b0 b3 b4 (w1 ++ w2 ++ w3) w4 to3 c.in_ok-push_class-4.ensures in
    let to5 = grown b0 b4 b5 (w1 ++ w2 ++ w3 ++ w4) w5 to4 c.in_ok-push_class-5.ensures in
    let to6 = grown b0 b5 b6 (w1 ++ w2 ++ w3 ++ w4 ++ w5) w6 to5 c.in_ok-push_class-6.ensures in
    grown_ok c.push_class-7.result b0 b6 (string_bytes c.push_class-7.new.text) (w1 ++ w2 ++ w3 ++ w4 ++ w5 ++ w6) w7 to6 c.push_class-7.ensures
