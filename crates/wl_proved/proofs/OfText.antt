-- A plan whose frames are those of the text, but for their data, keeps the table of messages that may have any data.
use Rattle.std.proofs.Common.{◌≡◌, ◌∙◌, ap, sym, subst, ℕ, ◌<◌, ◌≤◌, true, List, ◌∷◌, ◌++◌, length}
use Rattle.std.proofs.lemmas.List.{get_or-map, length-map}
use Rattle.wl_level.specs.declared.Level.{Level}
use Rattle.wl_frame.specs.Grammar.{Content, IsContent, bits_of}
use Rattle.wl_frame.specs.Stuffing.{Stuffs}
use Rattle.wl_node.specs.declared.setup.Queued.{Queued}
use Rattle.wl_plan.specs.declared.plan.Plan.{Plan}
use Rattle.wl_setup.specs.declared.plan_text.FrameText.{FrameText}
use Rattle.wl_setup.specs.declared.plan_text.PlanText.{PlanText}
use Rattle.wl_bound.specs.Families.{Bus, Buses}
use Rattle.wl_bound.specs.Rooms.{plain_bus}
use Rattle.wl_respond.specs.declared.message.MessageWait.{MessageWait}
use Rattle.wl_respond.specs.Asks.{IsOfText, asked_by, asked_of, frames_at, is_frame_of, message_in, no_asked}
use Rattle.wl_respond.specs.Bounds.{asked_in}
use Rattle.wl_respond.specs.Plans.{IsWithinBits, KeepsTable}
use Rattle.wl_respond.specs.Tests.{message_at, no_message}
use Rattle.wl_proved.specs.Waits.{HasTextFrame, KeepsText, messages_asked}
use Rattle.wl_proved.proofs.Entries.{is_of}

-- what wl_respond says of frames with any data
abbrev pub AnyDataLaw : Type 0
AnyDataLaw = (b : Bus) (x : MessageWait) (before later : List FrameText) (f : FrameText) (c : Content) (y : List Level) → is_frame_of x.frame f ≡ true → IsOfText c f → IsContent c
    → Stuffs y (bits_of c) → length y ≤ (asked_by b true x (before ++ f ∷ later)).message.bits

module _ (law : AnyDataLaw) (f : Buses) (plain : PlanText) (table : List MessageWait) where
  abbrev messages : List MessageWait
  messages = messages_asked f true plain table

  long : length messages ≡ length table
  long = length-map (asked_in f true plain table) message_in ∙ length-map table (asked_of (plain_bus f) true plain)

  -- a message as it is asked
  asked : (e : ℕ) → e < length messages → message_at messages e ≡ (asked_of (plain_bus f) true plain (message_at table e)).message
  asked e less =
      let inside : e < length table = subst (λ n. e < n) long less in
      let among : e < length (asked_in f true plain table) = subst (λ n. e < n) (sym (length-map table (asked_of (plain_bus f) true plain))) inside in
      get_or-map message_in (asked_in f true plain table) e no_asked no_message among
      ∙ ap message_in (get_or-map (asked_of (plain_bus f) true plain) table e no_message no_asked inside)

  within : (i : ℕ) (entry : Queued) (has : HasTextFrame plain messages i entry) → IsWithinBits entry.frame (message_at messages has.message).bits
  within i entry has = λ y stuffs.
      (let of = is_of messages i entry.frame has.message has.is in
      let x = message_at table has.message in
      let is = asked has.message of.inside in
      let node : x.node ≡ i = sym (ap (λ (m : MessageWait). m.node) is) ∙ of.node in
      let frames : frames_at plain x.node ≡ has.before ++ has.text ∷ has.later = ap (frames_at plain) node ∙ has.frames in
      let own : is_frame_of x.frame has.text ≡ true = sym (ap (λ (m : MessageWait). is_frame_of m.frame has.text) is) ∙ has.own in
      let most = law (plain_bus f) x has.before has.later has.text entry.frame y own has.same has.content stuffs in
      let bits : (message_at messages has.message).bits ≡ (asked_by (plain_bus f) true x (has.before ++ has.text ∷ has.later)).message.bits =
      ap (λ (m : MessageWait). m.bits) is ∙ ap (λ (t : List FrameText). (asked_by (plain_bus f) true x t).message.bits) frames in
      subst (λ n. length y ≤ n) (sym bits) most)

  pub keeps_table : (plan : Plan) → KeepsText plain plan messages → KeepsTable plan messages
  keeps_table plan keeps = λ i less. (let k = keeps i less in record {
    known = λ n inside. (let has = k.known n inside in record { message = has.message; is = has.is; bits = within i _ has });
    late = k.late;
    ordered = k.ordered;
    apart = k.apart;
  })
