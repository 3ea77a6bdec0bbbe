use Rattle.std.proofs.Common.{rules, ◌≡◌, ◌&&◌, true, string_bytes, nat_le, length, arith}
use Rattle.std.proofs.lemmas.Bool.{and_parts}
use Rattle.std.specs.List.{list_all}
use Rattle.wl_setup.specs.Kinds.{is_name_letter}
use Rattle.wl_setup.specs.Limits.{longest_name}
use Rattle.wl_settings.specs.Plans.{setting_plan_text, setting_plan, setting_quantum}
use Rattle.wl_settings.proofs.PlanPrints.{AreSmall, plan_fits}
use Rattle.wl_settings.proofs.PlanReads.{title_is_passed_over}
use Rattle.wl_settings.proofs.plan.plan_text.Goals as goal

pub returns-clause-reads_back : goal.returns-clause-reads_back
returns-clause-reads_back c = λ keys name.
    let a = c.args.asked.now in
    let d = c.args.controller.now in
    let s = c.args.setting in
    let text : string_bytes c.push_plan.new.text ≡ setting_plan_text a d s = search rules in
    let letters : list_all is_name_letter d.name ≡ true = (and_parts (nat_le 1 (length d.name) && nat_le (length d.name) longest_name) _ name).1 in
    let small : AreSmall a s = record {
      keys = keys;
      sjw = omega arith;
      quanta = omega arith;
    } in
    title_is_passed_over c.printed_after_comment.ensures d s (setting_plan a d.clock s) c.push_plan.new.text letters (omega arith) (omega arith)
    (plan_fits a s (setting_quantum a d.clock s) small (omega arith) (omega arith)) text
