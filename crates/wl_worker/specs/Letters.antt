-- A link's fault where its post has one, and the letters that a link hands over. This project's profile.
use Rattle.std.specs.Prelude.{◌≡◌, ◌≤◌, List, [], ◌∷◌, ◌++◌, length, take}
use Rattle.std.specs.Arc.{arc_value}
use Rattle.wl_record_core.specs.declared.record.Record.{Record}
use Rattle.wl_group.specs.GroupValue.{GroupValue, with_records}
use Rattle.wl_mail.specs.declared.letter.Letter.{Letter}
use Rattle.wl_mail.specs.Posts.{PostValue}
use Rattle.wl_mail.specs.declared.fault.MailFault.{MailFault}
use Rattle.wl_mail.specs.declared.fault.MailFault.TheVariants as mail
use Rattle.wl_worker.specs.declared.link.LinkFault.{LinkFault}
use Rattle.wl_worker.specs.declared.link.LinkFault.TheVariants as link

abbrev pub fault_of_mail : MailFault → LinkFault
fault_of_mail mail.Foreign = link.Foreign
fault_of_mail mail.Gone = link.Gone
fault_of_mail mail.Memory = link.Memory

-- the records of some letters, in order
abbrev pub records_of_letters : List Letter → List Record
records_of_letters [] = []
records_of_letters (letter ∷ letters) = (arc_value letter.records).items ++ records_of_letters letters

-- Every letter that a post received and had not handed out, and every one that came since, is handed out: the group took their records, in
-- order, and is else as it was.
pub record HandsAll (old new : PostValue) (before after : GroupValue) : Type 0 where
  pub kept : (more : List Letter) × (new.kept ≡ old.kept ++ more)
  pub letters : List Letter
  pub behind : take old.handed old.kept ++ letters ≡ new.kept
  pub all : length new.kept ≤ new.handed
  pub taken : after ≡ with_records (records_of_letters letters) before
