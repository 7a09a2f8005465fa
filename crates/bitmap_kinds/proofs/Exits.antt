-- What the calls return keeps their promises.
use Prim.Native.Nat.{ℕ, ◌+◌, ◌-◌, ◌≤◌, ◌<◌}
use native.Mathlib.Omega.{arith}
use native.Mathlib.Nat.{add_comm}
use mathlib.Core.Path.{◌≡◌, refl, sym, ap, ap₂, ◌∙◌}
use mathlib.Core.Bool.{Bool, true, false}
use mathlib.Core.List.{List}
use lib.ListN.{length, take, drop}
use borrow.Author.Tests.{lt-ltb, le-ltb}
use denote.Ref.{Bor}
use Rattle.std.specs.Prelude.{Result, Ok, Err, ⊤}
use Rattle.bits.specs.declared.OctetCount.{OctetCount}
use Rattle.bits.specs.declared.refusal.Refusal.{Refusal}
use Rattle.bits.specs.Places.{octet_count}
use Rattle.bits.specs.Refusals.{number_of, refusal}
use Rattle.bits.proofs.Refusals.{GivenBy}
use Rattle.bits.proofs.Answered.{not_refused, by_number, refusal_answered, acceptance_answered}
use Rattle.bits.specs.Outcome.{Outcome, accepted, refused}
use Rattle.bits.proofs.Octets.{rest}
use Rattle.bitmap.specs.declared.Reading.{Reading as BitmapReading}
use Rattle.bitmap.specs.Image.{black_pixels}
use Rattle.bitmap.specs.Bitmap.{Bitmap, reading as bitmapReading}
use Rattle.bitmap.specs.Promises.{verdict, told as bitmapTold, ReadPromise as BitmapReadPromise}
use Rattle.bitmap.proofs.Exits.{reading_numbered as bitmap-numbered}
use Rattle.bitmap.proofs.Calls.{read_refuses as bitmap-refuses}
use Rattle.bitmap_ahead.specs.declared.Kind.{Kind}
use Rattle.bitmap_ahead.specs.declared.Kind.TheVariants.{Logo}
use Rattle.bitmap_ahead.specs.Ahead.{Ahead, start_of, ahead_in, stands}
use Rattle.bitmap_kinds.specs.declared.Field.{Field}
use Rattle.bitmap_kinds.specs.declared.Field.TheVariants.{Mcc, Mnc, Date, Image}
use Rattle.bitmap_kinds.specs.declared.Stretch.{Stretch}
use Rattle.bitmap_kinds.specs.declared.Fields.{Fields}
use Rattle.bitmap_kinds.specs.declared.Reading.{Reading}
use Rattle.bitmap_kinds.specs.Kinds.{Graphic, with_ahead, reading}
use Rattle.bitmap_kinds.specs.Promises.{stretch, field_start, stretch_of, fields_of, told, told_of, numbers_of_reading, ReadPromise, FieldPromise}
use Rattle.bitmap_kinds.specs.Steps.{behind, start_answer, image_alone, fields_at, one_of}
use Rattle.bitmap_kinds.proofs.Rules.{graphic, ReadingCase, reading_is, reading_short, reading_wrong, reading_behind, Accepted, accepted_is, is_accepted}
use Rattle.bitmap_kinds.proofs.Stretches.{field_stretch, field_inside, fields_same, fields_right}

-- ---- the exits of `behind`

module _ (kind : Kind) (m : List ℕ) where
  pub behind_short : {start : ℕ} {r : Refusal} → start ≡ start_of kind m → length m < start + 4 → r ≡ refusal 2 0 → Err r ≡ start_answer kind m
  unfolding behind
  behind_short e l x = rw (x, lt-ltb (length m) (start_of kind m + 4) (omega (arith, e, l))) refl

  pub behind_right : {start : OctetCount} {t : Bool} → start.0 ≡ start_of kind m → start.0 + 4 ≤ length m → t ≡ stands kind m → t ≡ true → Ok start ≡ start_answer kind m
  unfolding behind
  behind_right e l f h = rw (le-ltb (length m) (start_of kind m + 4) (omega (arith, e, l)), ← f, h) (ap (λ (n : ℕ). Ok (octet_count n)) e)

  pub behind_wrong : {start : ℕ} {t : Bool} {r : Refusal} → start ≡ start_of kind m → start + 4 ≤ length m → t ≡ stands kind m → t ≡ false → r ≡ refusal 20 0
      → Err r ≡ start_answer kind m
  unfolding behind
  behind_wrong e l f h x = rw (x, le-ltb (length m) (start_of kind m + 4) (omega (arith, e, l)), ← f, h) refl

pub ruleset behinds = (behind_short, behind_right, behind_wrong)

-- ---- what it answers

-- the part ahead meets no refusal
record Clear (kind : Kind) (m : List ℕ) (start : ℕ) : Type 0 where
  begins : start ≡ start_of kind m
  long : start_of kind m + 4 ≤ length m
  stand : stands kind m ≡ true

clear : (kind : Kind) (m : List ℕ) → ReadingCase kind m → {s : OctetCount} → Ok s ≡ start_answer kind m → Clear kind m s.0
clear kind m (ReadingCase.short l) z = not_refused (z ∙ sym (behind_short kind m refl l refl))
clear kind m (ReadingCase.wrong l e) z = not_refused (z ∙ sym (behind_wrong kind m refl l refl e refl))
clear kind m (ReadingCase.right l e) {s} z =
    let x : ◌≡◌ {A = Result OctetCount Refusal} (Ok s) (Ok (octet_count (start_of kind m))) = z ∙ sym (behind_right kind m refl l refl e) in
    let y : s ≡ octet_count (start_of kind m) = cc in
    record { begins = ap (λ (c : OctetCount). c.0) y; long = l; stand = e }

cleared : (kind : Kind) (m : List ℕ) {v : Result OctetCount Refusal} {s : OctetCount} → v ≡ start_answer kind m → v ≡ Ok s → Clear kind m s.0
cleared kind m e z = clear kind m (reading_is kind m) (sym z ∙ e)

same : {r : Refusal} (n p : ℕ) → ◌≡◌ {A = Result OctetCount Refusal} (Err r) (Err (refusal n p)) → r ≡ refusal n p
same n p e = cc

faulted : (kind : Kind) (m : List ℕ) → ReadingCase kind m → {r : Refusal} → Err r ≡ start_answer kind m → reading kind m ≡ refused (number_of r.why) r.place.0
faulted kind m (ReadingCase.short l) z = rw (same 2 0 (z ∙ sym (behind_short kind m refl l refl))) (reading_short kind m l)
faulted kind m (ReadingCase.wrong l e) z = rw (same 20 0 (z ∙ sym (behind_wrong kind m refl l refl e refl))) (reading_wrong kind m l e)
faulted kind m (ReadingCase.right l e) z = not_refused (behind_right kind m refl l refl e ∙ sym z)

-- what the part ahead is refused with, the message is
ahead_refused : (kind : Kind) (m : List ℕ) {v : Result OctetCount Refusal} {r : Refusal} → v ≡ start_answer kind m → v ≡ Err r
    → reading kind m ≡ refused (number_of r.why) r.place.0
ahead_refused kind m e k = faulted kind m (reading_is kind m) (sym k ∙ e)

-- else the message is read behind it
ahead_read : (kind : Kind) (m : List ℕ) {v : Result OctetCount Refusal} {s : OctetCount} → v ≡ start_answer kind m → v ≡ Ok s
    → reading kind m ≡ with_ahead (ahead_in kind m) (bitmapReading (take (length m - s.0) (drop s.0 m)))
ahead_read kind m {s = s} e z =
    let c = cleared kind m e z in
    let d : take (length m - s.0) (drop s.0 m) ≡ drop (start_of kind m) m = rest s.0 m ∙ ap (λ (k : ℕ). drop k m) c.begins in
    reading_behind kind m c.long c.stand ∙ ap (λ (l : List ℕ). with_ahead (ahead_in kind m) (bitmapReading l)) (sym d)

-- the bitmap begins in the message
pub start_inside : (kind : Kind) (m : List ℕ) {v : Result OctetCount Refusal} {s : OctetCount} → v ≡ start_answer kind m → v ≡ Ok s → s.0 ≤ length m
start_inside kind m e z = let c = cleared kind m e z in omega (arith, c.begins, c.long)

pub start_header : (kind : Kind) (m : List ℕ) {v : Result OctetCount Refusal} {s : OctetCount} → v ≡ start_answer kind m → v ≡ Ok s
    → (s.0 ≡ start_of kind m) × (s.0 + 4 ≤ length m)
start_header kind m e z = let c = cleared kind m e z in (c.begins, omega (arith, c.begins, c.long))

-- ---- each refusal has a number of document 01

given_ahead : (a : Ahead) (o : Outcome Bitmap) → GivenBy o → GivenBy (with_ahead a o)
given_ahead a (accepted b) g = tt
given_ahead a (refused n p) g = g

given_case : (kind : Kind) (m : List ℕ) → ReadingCase kind m → GivenBy (reading kind m)
given_case kind m (ReadingCase.short l) = rw (reading_short kind m l) refl
given_case kind m (ReadingCase.wrong l e) = rw (reading_wrong kind m l e) refl
given_case kind m (ReadingCase.right l e) =
    rw (reading_behind kind m l e) (given_ahead (ahead_in kind m) (bitmapReading (drop (start_of kind m) m)) (bitmap-numbered (drop (start_of kind m) m)))

pub reading_numbered : (kind : Kind) (m : List ℕ) → GivenBy (reading kind m)
reading_numbered kind m = given_case kind m (reading_is kind m)

-- ---- the exits of `judge`

same_verdict : (a : Ahead) (o : Outcome Bitmap) → verdict (with_ahead a o) ≡ verdict o
same_verdict a (accepted b) = refl
same_verdict a (refused n p) = refl

pub judge_ahead : (kind : Kind) (m : List ℕ) {v : Result OctetCount Refusal} {r : Refusal} → v ≡ start_answer kind m → v ≡ Err r → Err r ≡ verdict (reading kind m)
judge_ahead kind m {r = r} e k = rw (ahead_refused kind m e k) (ap Err (sym (by_number r)))

pub judge_bitmap : (kind : Kind) (m : List ℕ) {v : Result OctetCount Refusal} {s : OctetCount} {r : Result ⊤ Refusal} → v ≡ start_answer kind m → v ≡ Ok s
    → r ≡ verdict (bitmapReading (take (length m - s.0) (drop s.0 m))) → r ≡ verdict (reading kind m)
judge_bitmap kind m {s = s} e z f = f ∙ sym (ap verdict (ahead_read kind m e z) ∙ same_verdict (ahead_in kind m) (bitmapReading (take (length m - s.0) (drop s.0 m))))

pub ruleset judges = (start_inside, judge_bitmap)

-- ---- the exits of `fields_at`

pub date_room : (m : List ℕ) {kind : Kind} {start : ℕ} → kind ≡ Logo → start ≡ start_of kind m → 7 ≤ start
date_room m h e = omega (arith, e ∙ ap (λ (x : Kind). start_of x m) h)

pub fields_alone : (start n : ℕ) {kind k : Kind} {i : Stretch} {r : Fields} → kind ≡ k → i ≡ stretch (start + 4) (n - (start + 4)) → r ≡ image_alone i
    → image_alone (stretch (start + 4) (n - (start + 4))) ≡ fields_at k start n → r ≡ fields_at kind start n
fields_alone start n h e f g = f ∙ ap image_alone e ∙ g ∙ ap (λ (x : Kind). fields_at x start n) (sym h)

pub fields_logo : (start n : ℕ) {kind : Kind} {a b c i : Stretch} → kind ≡ Logo → i ≡ stretch (start + 4) (n - (start + 4)) → a ≡ stretch 1 3 → b ≡ stretch 4 2
    → c ≡ stretch 6 (start - 7) → record { mcc = a; mnc = b; date = c; image = i } ≡ fields_at kind start n
fields_logo start n h i a b c = fields_same a b c i ∙ ap (λ (x : Kind). fields_at x start n) (sym h)

pub ruleset fields = (date_room, fields_alone, fields_logo)

-- ---- `read`

pub read_ahead : (kind : Kind) (m : List ℕ) {v : Result OctetCount Refusal} {r : Refusal} → v ≡ start_answer kind m → v ≡ Err r → ReadPromise kind m (Err r)
read_ahead kind m {r = r} e k = let q = ahead_refused kind m e k in record { answer = rw q (ap Err (sym (by_number r))); numbers = rw q refl }

module _ (kind : Kind) (m : List ℕ) {v : Result OctetCount Refusal} {s : OctetCount} (e : v ≡ start_answer kind m) (z : v ≡ Ok s) {x : Result BitmapReading Refusal}
    (p : BitmapReadPromise (take (length m - s.0) (drop s.0 m)) x) where
  pub read_refused : {r : Refusal} → x ≡ Err r → ReadPromise kind m (Err r)
  read_refused {r} g =
      let f = (bitmap-refuses (take (length m - s.0) (drop s.0 m)) x p r).0 g in
      let q : reading kind m ≡ refused (number_of r.why) r.place.0 = ahead_read kind m e z ∙ ap (with_ahead (ahead_in kind m)) f in
      record { answer = rw q (ap Err (sym (by_number r))); numbers = rw q refl }

  pub read_accepted : {y : BitmapReading} {f : Fields} → x ≡ Ok y → f ≡ fields_at kind s.0 (length m) → ReadPromise kind m (Ok (told f y.width y.height y.black))
  read_accepted {y} {f} g i =
      let t = acceptance_answered (λ (b : Bitmap). bitmapTold b.width b.height (black_pixels b.width b.height b.image)) (bitmapReading (take (length m - s.0) (drop s.0 m))) (sym g ∙ p.answer) in
      let b = t.0 in
      let c = cleared kind m e z in
      let d : take (length m - s.0) (drop s.0 m) ≡ drop (start_of kind m) m = rest s.0 m ∙ ap (λ (l : ℕ). drop l m) c.begins in
      let q : reading kind m ≡ accepted (graphic (ahead_in kind m) b) = ahead_read kind m e z ∙ ap (with_ahead (ahead_in kind m)) t.1 in
      let a : Accepted kind m (graphic (ahead_in kind m) b) = record { long = c.long; stand = c.stand; said = refl; reads = ap bitmapReading (sym d) ∙ t.1 } in
      let j : f ≡ fields_of kind (graphic (ahead_in kind m) b) =
      i ∙ ap (λ (l : ℕ). fields_at kind l (length m)) c.begins ∙ sym (fields_right kind m (graphic (ahead_in kind m) b) a) in
      let n : told f y.width y.height y.black ≡ told_of kind (graphic (ahead_in kind m) b) = ap₂ (λ (l : Fields) (c : BitmapReading). told l c.width c.height c.black) j t.2 in
      record { answer = rw q (ap Ok n); numbers = rw q (ap (λ (l : Reading). numbers_of_reading (Ok l)) n) }

pub ruleset reads = (start_inside, start_header, read_accepted)

-- ---- `field_of`

one_is : (kind : Kind) (f : Field) (g : Graphic) → one_of f (fields_of kind g) ≡ stretch_of kind f g
one_is kind Mcc g = refl
one_is kind Mnc g = refl
one_is kind Date g = refl
one_is kind Image g = refl

-- a message that meets no refusal is accepted
accepting : (kind : Kind) (m : List ℕ) {v : Result ⊤ Refusal} {u : ⊤} → v ≡ verdict (reading kind m) → v ≡ Ok u → (g : Graphic) × Accepted kind m g
accepting kind m e z = let t = acceptance_answered (λ (g : Graphic). tt) (reading kind m) (sym z ∙ e) in (t.0, accepted_is kind m t.0 t.1)

module _ (kind : Kind) (f : Field) (m : List ℕ) {v : Result ⊤ Refusal} {u : ⊤} {start : ℕ} {s : Stretch} {fs : Fields} (e : v ≡ verdict (reading kind m)) (z : v ≡ Ok u) (h : start ≡ start_of kind m)
    (k : fs ≡ fields_at kind start (length m)) (l : s ≡ one_of f fs) where
  found : (g : Graphic) × Accepted kind m g
  found = accepting kind m e z

  placed : s ≡ stretch_of kind f found.0
  placed =
      l
      ∙ ap (one_of f) (k ∙ ap (λ (x : ℕ). fields_at kind x (length m)) h ∙ sym (fields_right kind m found.0 found.1))
      ∙ one_is kind f found.0

  pub field_ends : s.start.0 + s.length.0 ≤ length m
  field_ends = rw placed (field_inside kind m found.0 found.1 f)

pub field_header : (kind : Kind) (m : List ℕ) {v : Result ⊤ Refusal} {u : ⊤} {start : ℕ} → v ≡ verdict (reading kind m) → v ≡ Ok u → start ≡ start_of kind m
    → start + 4 ≤ length m
field_header kind m e z h = let a = (accepting kind m e z).1 in omega (arith, h, a.long)

handed_back : (kind : Kind) (f : Field) (m : Bor (List ℕ)) (g : Graphic) (s : Stretch) → Accepted kind m.now g → s ≡ stretch_of kind f g
    → FieldPromise kind f m (record { ref_ptr = (m.ref_ptr.0, s.start.0 + m.ref_ptr.1); now = take (s.start.0 + s.length.0 - s.start.0) (drop s.start.0 m.now) })
handed_back kind f m g s a t =
    let q = is_accepted kind m.now g a in
    let i : s.start.0 + s.length.0 - s.start.0 ≡ s.length.0 = omega arith in
    record {
      octets = rw (q, i, t) (sym (field_stretch kind m.now g a f));
      block = refl;
      start = rw (q, t) (add_comm (field_start kind f g) m.ref_ptr.1);
    }

pub field_accepted : (kind : Kind) (f : Field) (m : Bor (List ℕ)) {v : Result ⊤ Refusal} {u : ⊤} {start : ℕ} {s : Stretch} {fs : Fields} → v ≡ verdict (reading kind m.now) → v ≡ Ok u
    → start ≡ start_of kind m.now → fs ≡ fields_at kind start (length m.now) → s ≡ one_of f fs
    → FieldPromise kind f m (record { ref_ptr = (m.ref_ptr.0, s.start.0 + m.ref_ptr.1); now = take (s.start.0 + s.length.0 - s.start.0) (drop s.start.0 m.now) })
field_accepted kind f m {s = s} e z h k l =
    let x = found kind f m.now e z h k l in
    handed_back kind f m x.0 s x.1 (placed kind f m.now e z h k l)

pub field_refused : (kind : Kind) (f : Field) (m : Bor (List ℕ)) {v : Result ⊤ Refusal} {r : Refusal} → v ≡ verdict (reading kind m.now) → v ≡ Err r
    → FieldPromise kind f m (record { ref_ptr = (m.ref_ptr.0, 0 + m.ref_ptr.1); now = take (0 - 0) (drop 0 m.now) })
field_refused kind f m e k =
    let q = refusal_answered (λ (g : Graphic). tt) (reading kind m.now) (reading_numbered kind m.now) (sym k ∙ e) in
    record { octets = rw q refl; block = refl; start = rw q (add_comm 0 m.ref_ptr.1) }

pub ruleset stretches = (field_header, field_ends, field_accepted, field_refused)
