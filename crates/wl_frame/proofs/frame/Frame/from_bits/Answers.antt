use Rattle.std.proofs.Common.{◌≡◌, ◌∙◌, ap, arith, sym, subst}
use Rattle.wl_frame.specs.Grammar.{bytes_from, byte_count, content_of, layout_of}
use Rattle.wl_frame.specs.Padded.{eight_bytes}
use Rattle.wl_frame.specs.Held.{content, held_frame, IsHeldFrame}
use Rattle.wl_frame.specs.declared.frame.Frame.TheInside.{Inside}
use Rattle.wl_frame.proofs.HeldFrames.{content_held, held_is}
use Rattle.wl_frame.proofs.Reading.{content_is, whole_length}
use Rattle.wl_frame.proofs.frame.Frame.from_bits.Goals as goal

count : (c : goal.After-byte_count) → c.byte_count.result ≡ (layout_of c.args.bits.now).bytes
count c =
    c.byte_count.ensures.value
    ∙ ap (λ r. byte_count r c.data_length_code-dlc.result) c.is_remote-remote.ensures
    ∙ ap (byte_count (content_of c.args.bits.now).remote) c.data_length_code-dlc.ensures

made : (c : goal.After-identifier)
    → ◌≡◌ {A = Inside} (record { extended = c.is_extended.result; id = c.identifier.result; remote = c.is_remote-remote.result; dlc = c.data_length_code-dlc.result; bytes = c.bytes_at-bytes.result })
    (held_frame (content_of c.args.bits.now))
made c =
    let bytes : c.bytes_at-bytes.result ≡ eight_bytes (bytes_from c.args.bits.now (layout_of c.args.bits.now).header (layout_of c.args.bits.now).bytes) =
    c.bytes_at-bytes.ensures
    ∙ ap (λ n. eight_bytes (bytes_from c.args.bits.now n c.byte_count.result)) c.header_length.ensures.value
    ∙ ap (λ n. eight_bytes (bytes_from c.args.bits.now (layout_of c.args.bits.now).header n))
    (c.byte_count.ensures.value
    ∙ ap (λ r. byte_count r c.data_length_code-dlc.result) c.is_remote-remote.ensures
    ∙ ap (byte_count (content_of c.args.bits.now).remote) c.data_length_code-dlc.ensures)
    in
    λ i. record { extended = c.is_extended.ensures i; id = c.identifier.ensures i; remote = c.is_remote-remote.ensures i; dlc = c.data_length_code-dlc.ensures i; bytes = bytes i }

pub bytes_at-bytes-requires-clause-there : goal.bytes_at-bytes-requires-clause-there
bytes_at-bytes-requires-clause-there c = omega (arith, whole_length c.args.bits.now c.requires, count c, c.header_length.ensures.value)

pub invariant_of-result : goal.invariant_of-result
invariant_of-result c = subst IsHeldFrame (sym (made c)) (held_is (content_of c.args.bits.now) (content_is c.args.bits.now))

pub returns : goal.returns
returns c = ap content (made c) ∙ content_held (content_of c.args.bits.now) (content_is c.args.bits.now)
