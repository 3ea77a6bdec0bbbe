-- Reading, one call at a time.
use Rattle.std.specs.Prelude.{◌≡◌, ◌≢◌, ℕ, ◌+◌, ◌<◌, ◌≤◌, List, [], ◌∷◌, ◌++◌, length, take, drop, refl, Bool, true, false, nat_lt}
use Rattle.std.proofs.Common.{inl, inr, sym, ap, ◌∙◌, subst, arith, append_assoc, length-append, length-drop, take-append-drop}
use Rattle.std.proofs.lemmas.List.{drop-take, take-take, length-take, length-take-le, append-nil}
use Rattle.std.proofs.lemmas.Bool.{ltb-true, ltb-false}
use Rattle.wl_limits.specs.declared.Limits.{Limits}
use Rattle.wl_record_core.specs.declared.record.Record.{Record}
use Rattle.wl_record.specs.declared.fault.TextFault.{TextFault}
use Rattle.wl_record.specs.declared.fault.TextFault.TheVariants.{Truncated, Read, TooLong}
use Rattle.wl_record.specs.declared.parse.LineFault.TheVariants.{Grammar, Beyond}
use Rattle.wl_record.specs.declared.parse.Stop.{Stop}
use Rattle.wl_record.specs.declared.parse.Stop.TheVariants.{Open, Long, Refused}
use Rattle.wl_device.specs.Limits.{most_calls, most_calls-is}
use Rattle.wl_device.specs.declared.limits.TheConstants.{MOST_CALLS}
use Rattle.wl_record.specs.declared.limits.TheConstants.{MOST_BYTES}
use Rattle.wl_record.specs.Limits.{most_record_bytes, most_record_bytes-is, most_line, most_line-is}
use Rattle.wl_record_core.specs.Within.{IsWithinBy}
use Rattle.wl_record.specs.Grammar.{Lines, IsText}
use Rattle.wl_device.specs.Devices.{Answer, moved, ended, again, failed, moved_bytes}
use Rattle.wl_device.specs.Readings.{at_end, broken_off, going_on}
use Rattle.wl_record.specs.Faults.{HasNoNewline, Stands, IsFirstFault}
use Rattle.wl_device.specs.Readings.{ReadsBy}
use Rattle.wl_record.specs.Reading.{ReadProgress, HasRead, RecordsOf, FaultOf, beginning}
use Rattle.wl_record.specs.Parsing.{TakesLines, TakesPiece, StopsAt, IsPieceFault, stop_fault, past_len}
use Rattle.wl_device.proofs.Runs.{run_more, goes_more, moved_bytes-append, all_append}

-- ---- lines after lines
pub lines_append : (front more : List ℕ) (rs qs : List Record) → Lines front rs → Lines more qs → Lines (front ++ more) (rs ++ qs)
lines_append front more [] qs h g = subst (λ z. Lines (z ++ more) qs) (sym h) g
lines_append front more (r ∷ rs) qs h g = (h.0, h.1 ++ more, h.2, ap (λ z. z ++ more) h.3 ∙ append_assoc h.0 (10 ∷ h.1) more, lines_append h.1 more rs qs h.4 g)

-- each line has a byte
pub lines_count : (front : List ℕ) (rs : List Record) → Lines front rs → length rs ≤ length front
lines_count front [] h = omega arith
lines_count front (r ∷ rs) h = omega (arith, ap length h.3, length-append h.0 (10 ∷ h.1), lines_count h.1 rs h.4)

-- where reading is after some more bytes
pub stands_on : (limits : Limits) (text : List ℕ) (told : List Record) (begun came allowed beyond : List ℕ) (rs : List Record) (rest line tail : List ℕ) → Stands limits text told begun [] → begun ++ came ≡ allowed ++ beyond
    → TakesLines limits allowed rs rest → rest ≡ line ++ tail → HasNoNewline line → length line ≤ most_line → length (text ++ came) ≤ most_record_bytes + length (tail ++ beyond)
    → Stands limits (text ++ came) (told ++ rs) line (tail ++ beyond)
stands_on limits text told begun came allowed beyond rs rest line tail h cut taken is one short few = record {
  front = h.front ++ taken.front;
  parts =
      ap (λ z. z ++ came) h.parts
      ∙ (append_assoc h.front (begun ++ []) came
      ∙ (ap (λ z. h.front ++ (z ++ came)) (append-nil begun)
      ∙ (ap (λ z. h.front ++ z) (cut ∙ (ap (λ z. z ++ beyond) (taken.parts ∙ ap (λ z. taken.front ++ z) is) ∙ (append_assoc taken.front (line ++ tail) beyond ∙ ap (λ z. taken.front ++ z) (append_assoc line tail beyond))))
      ∙ sym (append_assoc h.front taken.front (line ++ (tail ++ beyond))))));
  lines = lines_append h.front taken.front told rs h.lines taken.lines;
  within = all_append (IsWithinBy limits) told rs h.within taken.within;
  one_line = one;
  short_line = short;
  short_text = few;
}

-- the text is whole where no line has begun
pub whole_text : (limits : Limits) (text : List ℕ) (told : List Record) (begun : List ℕ) → Stands limits text told begun [] → begun ≡ [] → IsText limits text told
whole_text limits text told begun h none = record {
  lines = subst (λ z. Lines z told) (sym (h.parts ∙ (ap (λ z. h.front ++ (z ++ [])) none ∙ append-nil h.front))) h.lines;
  within = h.within;
  short = omega (arith, h.short_text);
}

pub take_more : (n m : ℕ) (xs : List ℕ) → take (n + m) xs ≡ take n xs ++ take m (drop n xs)
take_more n m xs = sym (take-append-drop n (take (n + m) xs)) ∙ (λ i. take-take n (n + m) xs (omega arith) i ++ drop-take n m xs i)

-- no more bytes came than a text has, but for those beyond
within_limit : (past : Bool) (bytes : ℕ) (beyond : List ℕ) → length beyond ≡ past_len past → (past ≡ true → bytes ≡ most_record_bytes + 1) → (past ≡ false → bytes ≤ most_record_bytes) → bytes ≤ most_record_bytes + length beyond
within_limit true bytes beyond is full fits = omega (arith, is, full refl)
within_limit false bytes beyond is full fits = omega (arith, is, fits refl)

-- a stop in a piece is the first fault of the text
stop_is_fault : (limits : Limits) (text : List ℕ) (told : List Record) (begun came : List ℕ) (past : Bool) (bytes n : ℕ) (rs : List Record) (stop : Stop) → Stands limits text told begun [] → StopsAt limits (begun ++ came) past rs stop
    → length (text ++ came) ≡ bytes → (past ≡ true → bytes ≡ most_record_bytes + 1) → (past ≡ false → bytes ≤ most_record_bytes) → n ≡ length (told ++ rs) + 1 → IsFirstFault limits (text ++ came) going_on (stop_fault stop n)
stop_is_fault limits text told begun came past bytes n rs Open h at total full fits count =
    let few : bytes ≤ most_record_bytes + length at.beyond = within_limit past bytes at.beyond at.beyond_is full fits in
    let is_past : past ≡ true = at.open_is_past refl in
    let stands = stands_on limits text told begun came at.allowed at.beyond rs at.rest at.rest [] h at.parts at.taken (sym (append-nil at.rest)) at.stops.0 at.stops.1 (omega (arith, total, few)) in
    let one : length at.beyond ≡ 1 = at.beyond_is ∙ ap past_len is_past in
    let edge : length (text ++ came) ≡ most_record_bytes + length at.beyond = omega (arith, total, full is_past, one) in
    elim at.beyond as (λ b. length b ≡ 1 → Stands limits (text ++ came) (told ++ rs) at.rest b → length (text ++ came) ≡ most_record_bytes + length b → IsFirstFault limits (text ++ came) going_on (TooLong n)) [
      | [] ↦ λ o st ed. absurd (omega (arith, o))
      | b ∷ more ↦ λ o st ed. (told ++ rs, at.rest, b ∷ more, st, (count, (b, more, refl, inl ed)))
    ] one stands edge
stop_is_fault limits text told begun came past bytes n rs Long h at total full fits count =
    let few : bytes ≤ most_record_bytes + length at.beyond = within_limit past bytes at.beyond at.beyond_is full fits in
    let line = at.stops.0 in
    let next = at.stops.1 in
    let more = at.stops.2 in
    let stands = stands_on limits text told begun came at.allowed at.beyond rs at.rest line (next ∷ more) h at.parts at.taken at.stops.3 at.stops.4 (omega (arith, at.stops.5)) (omega (arith, total, few, length-append more at.beyond)) in
    (told ++ rs, line, next ∷ (more ++ at.beyond), stands, (count, (next, more ++ at.beyond, refl, inr (at.stops.5, at.stops.6))))
stop_is_fault limits text told begun came past bytes n rs (Refused Grammar) h at total full fits count =
    let few : bytes ≤ most_record_bytes + length at.beyond = within_limit past bytes at.beyond at.beyond_is full fits in
    let line = at.stops.0 in
    let more = at.stops.1 in
    let stands = stands_on limits text told begun came at.allowed at.beyond rs at.rest line (10 ∷ more) h at.parts at.taken at.stops.2.parts at.stops.2.one_line at.stops.2.short (omega (arith, total, few, length-append more at.beyond)) in
    (told ++ rs, line, 10 ∷ (more ++ at.beyond), stands, (count, (more ++ at.beyond, refl, omega (arith, total, few, length-append more at.beyond)), at.stops.3))
stop_is_fault limits text told begun came past bytes n rs (Refused Beyond) h at total full fits count =
    let few : bytes ≤ most_record_bytes + length at.beyond = within_limit past bytes at.beyond at.beyond_is full fits in
    let line = at.stops.0 in
    let more = at.stops.1 in
    let stands = stands_on limits text told begun came at.allowed at.beyond rs at.rest line (10 ∷ more) h at.parts at.taken at.stops.2.parts at.stops.2.one_line at.stops.2.short (omega (arith, total, few, length-append more at.beyond)) in
    (told ++ rs, line, 10 ∷ (more ++ at.beyond), stands, (count, (more ++ at.beyond, refl, omega (arith, total, few, length-append more at.beyond)), at.stops.3.0, at.stops.3.1, at.stops.3.2))

-- the fault of a stop is one of the text
stop_of_text : (limits : Limits) {S : Type 0} (gives : S → Answer → S → Type 0) (s u : S) (text : List ℕ) (answers : List Answer) (stop : Stop) (n : ℕ) → ReadsBy gives s text going_on u answers
    → length text ≤ most_record_bytes + 1 → IsFirstFault limits text going_on (stop_fault stop n) → FaultOf limits gives s (stop_fault stop n) u
stop_of_text limits gives s u text answers Open n h few f = (text, going_on, (answers, h), few, f)
stop_of_text limits gives s u text answers Long n h few f = (text, going_on, (answers, h), few, f)
stop_of_text limits gives s u text answers (Refused Grammar) n h few f = (text, going_on, (answers, h), few, f)
stop_of_text limits gives s u text answers (Refused Beyond) n h few f = (text, going_on, (answers, h), few, f)

-- at most one byte came past those of a text
one_past : (past : Bool) (bytes : ℕ) → (past ≡ true → bytes ≡ most_record_bytes + 1) → (past ≡ false → bytes ≤ most_record_bytes) → bytes ≤ most_record_bytes + 1
one_past true bytes full fits = omega (arith, full refl)
one_past false bytes full fits = omega (arith, fits refl)

module _ {S : Type 0} (gives : S → Answer → S → Type 0) where
  module _ (s : S) (answers : List Answer) (told : List Record) (p : ReadProgress) (t : S) (h : HasRead gives s answers told p t) where
    nothing_moved : (a : Answer) → moved_bytes (a ∷ []) ≡ [] → moved_bytes (answers ++ a ∷ []) ≡ moved_bytes answers
    nothing_moved a none = moved_bytes-append answers (a ∷ []) ∙ (ap (λ z. moved_bytes answers ++ z) none ∙ append-nil (moved_bytes answers))

    came_moved : (came : List ℕ) → moved_bytes (answers ++ moved came ∷ []) ≡ moved_bytes answers ++ came
    came_moved came = moved_bytes-append answers (moved came ∷ []) ∙ ap (λ z. moved_bytes answers ++ z) (append-nil came)

    pub read_again : (u : S) → gives t again u → HasRead gives s (answers ++ again ∷ []) (told ++ []) (record p { calls = p.calls + 1 }) u
    read_again u g = record {
      run = run_more gives s answers t again u h.run g;
      goes = goes_more answers again h.goes tt;
      calls = omega (arith, length-append answers (again ∷ []), h.calls);
      bytes = ap length (nothing_moved again refl) ∙ h.bytes;
      lines = ap length (append-nil told) ∙ h.lines;
      stands = subst (λ z. Stands p.limits z (told ++ []) p.begun []) (sym (nothing_moved again refl)) (subst (λ z. Stands p.limits (moved_bytes answers) z p.begun []) (sym (append-nil told)) h.stands);
    }

    pub read_piece : (u : S) (came : List ℕ) (past : Bool) (rs : List Record) (begun : List ℕ) (bytes lines : ℕ) → gives t (moved came) u → TakesPiece p.limits (p.begun ++ came) past rs begun
        → bytes ≡ p.bytes + length came → bytes ≤ most_record_bytes → lines ≡ p.lines + length rs → HasRead gives s (answers ++ moved came ∷ []) (told ++ rs) (record { limits = p.limits; calls = p.calls + 1; bytes = bytes; lines = lines; begun = begun }) u
    read_piece u came past rs begun bytes lines g piece eb fits el =
        let total : length (moved_bytes answers ++ came) ≡ bytes = omega (arith, length-append (moved_bytes answers) came, h.bytes, eb) in
        record {
          run = run_more gives s answers t (moved came) u h.run g;
          goes = goes_more answers (moved came) h.goes tt;
          calls = omega (arith, length-append answers (moved came ∷ []), h.calls);
          bytes = ap length (came_moved came) ∙ total;
          lines = omega (arith, length-append told rs, h.lines, el);
          stands = subst (λ z. Stands p.limits z (told ++ rs) begun []) (sym (came_moved came))
              (stands_on p.limits (moved_bytes answers) told p.begun came (p.begun ++ came) [] rs begun begun [] h.stands (sym (append-nil (p.begun ++ came))) piece.taken (sym (append-nil begun)) piece.one_line piece.short (omega (arith, total, fits)));
        }

    module _ (few : p.calls < most_calls) where
      pub read_all : (u : S) → gives t ended u → p.begun ≡ [] → RecordsOf p.limits gives s told u
      read_all u g none = (
        moved_bytes answers,
        (
          answers ++ ended ∷ [],
          record {
            run = run_more gives s answers t ended u h.run g;
            bytes_are = nothing_moved ended refl;
            ends = (answers, refl, h.goes);
            few = omega (arith, length-append answers (ended ∷ []), h.calls);
          },
        ),
        whole_text p.limits (moved_bytes answers) told p.begun h.stands none,
      )

      pub read_truncated : (u : S) → gives t ended u → p.begun ≢ [] → FaultOf p.limits gives s Truncated u
      read_truncated u g some = (
        moved_bytes answers,
        at_end,
        (
          answers ++ ended ∷ [],
          record {
            run = run_more gives s answers t ended u h.run g;
            bytes_are = nothing_moved ended refl;
            ends = (answers, refl, h.goes);
            few = omega (arith, length-append answers (ended ∷ []), h.calls);
          },
        ),
        omega (arith, h.stands.short_text),
        (told, p.begun, [], h.stands, (refl, some, refl)),
      )

      pub read_failed : (u : S) → gives t failed u → FaultOf p.limits gives s Read u
      read_failed u g = (
        moved_bytes answers,
        broken_off,
        (
          answers ++ failed ∷ [],
          record {
            run = run_more gives s answers t failed u h.run g;
            bytes_are = nothing_moved failed refl;
            ends = inl (answers, refl, h.goes);
            few = omega (arith, length-append answers (failed ∷ []), h.calls);
          },
        ),
        omega (arith, h.stands.short_text),
        (told, p.begun, [], h.stands, (refl, refl)),
      )

      pub read_fault : (u : S) (came : List ℕ) (past : Bool) (bytes : ℕ) (fault : TextFault) → gives t (moved came) u → IsPieceFault p.limits (p.begun ++ came) past p.lines fault
          → bytes ≡ p.bytes + length came → (past ≡ true → bytes ≡ most_record_bytes + 1) → (past ≡ false → bytes ≤ most_record_bytes) → FaultOf p.limits gives s fault u
      read_fault u came past bytes fault g is eb full fits =
          let read : ReadsBy gives s (moved_bytes answers ++ came) going_on u (answers ++ moved came ∷ []) = record {
            run = run_more gives s answers t (moved came) u h.run g;
            bytes_are = came_moved came;
            ends = goes_more answers (moved came) h.goes tt;
            few = omega (arith, length-append answers (moved came ∷ []), h.calls);
          } in
          let total : length (moved_bytes answers ++ came) ≡ bytes = omega (arith, length-append (moved_bytes answers) came, h.bytes, eb) in
          let few : length (moved_bytes answers ++ came) ≤ most_record_bytes + 1 = omega (arith, total, one_past past bytes full fits) in
          elim is [
            | inl e ↦ subst (λ f. FaultOf p.limits gives s f u) (sym e) (moved_bytes answers ++ came, (_, read), few)
            | inr (rs, stop, at, e) ↦ subst (λ f. FaultOf p.limits gives s f u) (sym e)
                (stop_of_text p.limits gives s u (moved_bytes answers ++ came) _ stop _ read few
                (stop_is_fault p.limits (moved_bytes answers) told p.begun came past bytes _ rs stop h.stands at total full fits (omega (arith, length-append told rs, h.lines))))
          ]

    pub read_out : p.calls ≡ most_calls → FaultOf p.limits gives s Read t
    read_out out = (
      moved_bytes answers,
      broken_off,
      (
        answers,
        record {
          run = h.run;
          bytes_are = refl;
          ends = inr (omega (arith, h.calls, out), h.goes);
          few = omega (arith, h.calls, out);
        },
      ),
      omega (arith, h.stands.short_text),
      (told, p.begun, [], h.stands, (refl, refl)),
    )

-- what a new reader holds
pub new_piece : (items : List ℕ) (len : ℕ) → length items ≡ len → len ≡ 65536 → (0 ≤ most_line) × (most_line < length items) × (length items < 4294967296) × (0 ≤ most_calls) × (0 ≤ most_record_bytes) × (0 ≤ 0)
new_piece items len is size = (omega arith, omega (arith, most_line-is, is, size), omega (arith, is, size), omega arith, omega arith, omega arith)

-- what holds of the fields of a reader
abbrev pub Kept : (begun size calls bytes lines : ℕ) → Type 0
Kept begun size calls bytes lines = (begun ≤ most_line) × (most_line < size) × (size < 4294967296) × (calls ≤ most_calls) × (bytes ≤ most_record_bytes) × (lines + begun ≤ bytes)

pub kept_call : (begun size same calls bytes lines : ℕ) → Kept begun size calls bytes lines → calls < MOST_CALLS → same ≡ size → Kept begun same (calls + 1) bytes lines
kept_call begun size same calls bytes lines k few e = (k.0, omega (arith, k.1, e), omega (arith, k.2, e), omega (arith, few, most_calls-is), k.4, k.5)

pub kept_spent : (begun size same calls bytes lines : ℕ) → Kept begun size calls bytes lines → same ≡ size → Kept begun same MOST_CALLS bytes lines
kept_spent begun size same calls bytes lines k e = (k.0, omega (arith, k.1, e), omega (arith, k.2, e), omega (arith, most_calls-is), k.4, k.5)

pub kept_piece : (begun size same calls bytes lines left n more : ℕ) → Kept begun size calls bytes lines → calls < MOST_CALLS → same ≡ size → left ≤ most_line → bytes + n ≤ most_record_bytes → more + left ≤ bytes + n → Kept left same (calls + 1) (bytes + n) more
kept_piece begun size same calls bytes lines left n more k few e short fits count = (short, omega (arith, k.1, e), omega (arith, k.2, e), omega (arith, few, most_calls-is), fits, count)

pub piece_count : (limits : Limits) (bytes : List ℕ) (past : Bool) (rs : List Record) (begun : List ℕ) → TakesPiece limits bytes past rs begun → length rs + length begun ≤ length bytes
piece_count limits bytes past rs begun h = omega (arith, ap length h.taken.parts, length-append h.taken.front begun, lines_count h.taken.front rs h.taken.lines)

-- the bytes that came lie after those that there were
pub piece_bytes : (old new : List ℕ) (have n most : ℕ) → have ≤ length old → length new ≡ length old → take have new ≡ take have old → n ≤ length (take most (drop have new))
    → (take (have + n) new ≡ take have old ++ take n (drop have new)) × (length (take n (drop have new)) ≡ n) × (length (take (have + n) new) ≡ have + n) × (n ≤ most)
piece_bytes old new have n most within len kept fits =
    let all = length-take most (drop have new) in
    let fewer : n ≤ length (drop have new) = omega (arith, all, fits) in
    let came = length-take-le n (drop have new) fewer in
    (take_more have n new ∙ ap (λ z. z ++ take n (drop have new)) kept, came, length-take-le (have + n) new (omega (arith, fewer, length-drop have new, len, within)), omega (arith, all, fits))

pub past_means : (bytes : ℕ) (past : Bool) → past ≡ nat_lt MOST_BYTES bytes → bytes ≤ MOST_BYTES + 1 → (past ≡ true → bytes ≡ most_record_bytes + 1) × (past ≡ false → bytes ≤ most_record_bytes)
past_means bytes past is few = ((λ set. omega (arith, few, most_record_bytes-is, ltb-true MOST_BYTES bytes (sym is ∙ set))), (λ unset. omega (arith, most_record_bytes-is, ltb-false MOST_BYTES bytes (sym is ∙ unset))))

-- before the first call nothing has been read
pub nothing_read : {S : Type 0} (limits : Limits) (gives : S → Answer → S → Type 0) (s : S) → HasRead gives s [] [] (beginning limits) s
nothing_read limits gives s = record {
  run = refl;
  goes = tt;
  calls = refl;
  bytes = refl;
  lines = refl;
  stands = record { front = []; parts = refl; lines = refl; within = tt; one_line = tt; short_line = omega arith; short_text = omega arith };
}
