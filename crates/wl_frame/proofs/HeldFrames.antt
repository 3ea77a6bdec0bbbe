-- A content as it is held.
use Rattle.std.proofs.Common.{◌≡◌, ◌-◌, length, take, replicate, sym, ap, subst}
use Rattle.std.proofs.lemmas.List.{take_at}
use Rattle.wl_frame.specs.Grammar.{Content, IsContent, byte_count}
use Rattle.wl_frame.specs.Padded.{eight_bytes}
use Rattle.wl_frame.specs.Held.{content, held_frame, IsHeldFrame}

held_bytes : (c : Content) → IsContent c → take (byte_count c.remote c.dlc) (eight_bytes c.bytes) ≡ c.bytes
held_bytes c is = take_at c.bytes (replicate (8 - length c.bytes) 0) (byte_count c.remote c.dlc) is.count

pub content_held : (c : Content) → IsContent c → content (held_frame c) ≡ c
content_held c is = λ i. record { extended = c.extended; id = c.id; remote = c.remote; dlc = c.dlc; bytes = held_bytes c is i }

pub held_is : (c : Content) → IsContent c → IsHeldFrame (held_frame c)
held_is c is = record { content = subst IsContent (sym (content_held c is)) is; padding = ap eight_bytes (held_bytes c is) }
