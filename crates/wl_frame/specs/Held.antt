-- A frame as it is held: this project's representation.
use Rattle.std.specs.Prelude.{◌≡◌, take}
use Rattle.wl_frame.specs.Grammar.{Content, IsContent, byte_count}
use Rattle.wl_frame.specs.Padded.{eight_bytes}
use Rattle.wl_frame.specs.declared.frame.Frame.TheInside.{Inside}

abbrev pub content : Inside → Content
content f = record { extended = f.extended; id = f.id; remote = f.remote; dlc = f.dlc; bytes = take (byte_count f.remote f.dlc) f.bytes }

abbrev pub held_frame : Content → Inside
held_frame c = record { extended = c.extended; id = c.id; remote = c.remote; dlc = c.dlc; bytes = eight_bytes c.bytes }

pub record IsHeldFrame (f : Inside) : Type 0 where
  pub content : IsContent (content f)
  pub padding : eight_bytes (take (byte_count f.remote f.dlc) f.bytes) ≡ f.bytes

pub held_content : (f : Inside) → IsHeldFrame f → held_frame (content f) ≡ f
held_content f h = λ i. record { extended = f.extended; id = f.id; remote = f.remote; dlc = f.dlc; bytes = h.padding i }
