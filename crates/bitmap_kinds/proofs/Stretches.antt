-- Where the fields of an accepted message stand.
use Prim.Native.Nat.{ℕ, ◌+◌, ◌-◌, ◌≤◌}
use native.Mathlib.Omega.{arith}
use mathlib.Core.Path.{◌≡◌, refl, sym, ap, ap₂, subst, ◌∙◌}
use mathlib.Core.List.{List}
use lib.ListN.{length, take, drop, length-append, length-take, length-drop, take-append-drop}
use lib.Seq.{length-take-le, take-length, take-append_seam, drop-drop}
use Rattle.bitmap.specs.Bitmap.{Bitmap}
use Rattle.bitmap.proofs.Rules.{write_read as bitmap-write-read}
use Rattle.bitmap_ahead.specs.declared.Kind.{Kind}
use Rattle.bitmap_ahead.specs.declared.Kind.TheVariants.{Plain, Icon, Logo}
use Rattle.bitmap_ahead.specs.Digits.{date_octets}
use Rattle.bitmap_ahead.specs.Ahead.{Ahead, ahead_octets, start_of, ahead_in}
use Rattle.bitmap_ahead.proofs.Rules.{found_formed, found_written}
use Rattle.bitmap_kinds.specs.declared.Field.{Field}
use Rattle.bitmap_kinds.specs.declared.Field.TheVariants.{Mcc, Mnc, Date, Image}
use Rattle.bitmap_kinds.specs.declared.Stretch.{Stretch}
use Rattle.bitmap_kinds.specs.declared.Fields.{Fields}
use Rattle.bitmap_kinds.specs.Kinds.{Graphic}
use Rattle.bitmap_kinds.specs.Promises.{field_of, in_logo, field_start, stretch, stretch_of, fields_of}
use Rattle.bitmap_kinds.specs.Steps.{image_alone, fields_at}
use Rattle.bitmap_kinds.proofs.Rules.{graphic, Accepted}

-- as many octets of a list as its front has are that front
front_again : (n : ℕ) (l : List ℕ) → take (length (take n l)) l ≡ take n l
front_again n l = ap (take (length (take n l))) (sym (take-append-drop n l)) ∙ take-append_seam (take n l) (drop n l)

-- each field of what a message says is the stretch that is said to be it
told : (kind : Kind) (m : List ℕ) (b : Bitmap) → drop (length (ahead_octets kind (ahead_in kind m)) + 4) m ≡ b.image → (f : Field)
    → field_of f (graphic (ahead_in kind m) b) ≡ take (length (field_of f (graphic (ahead_in kind m) b))) (drop (field_start kind f (graphic (ahead_in kind m) b)) m)
told Plain m b e Mcc = refl
told Plain m b e Mnc = refl
told Plain m b e Date = refl
told Icon m b e Mcc = refl
told Icon m b e Mnc = refl
told Icon m b e Date = refl
told Logo m b e Mcc = sym (front_again 3 (drop 1 m))
told Logo m b e Mnc = sym (front_again 2 (drop 4 m))
told Logo m b e Date = sym (front_again (date_octets (drop 6 m)) (drop 6 m))
told kind m b e Image = rw e (sym (take-length b.image))

-- a stretch that begins in a message ends in it
ends : (l m : List ℕ) (at : ℕ) → l ≡ take (length l) (drop at m) → at ≤ length m → at + length l ≤ length m
ends l m at e h = omega (arith, simp (length-take, length-drop) at (ap length e))

-- codes and date begin in a message
begins : (kind : Kind) (m : List ℕ) (n : ℕ) → n ≤ 6 → start_of kind m ≤ length m → in_logo kind n ≤ length m
begins Plain m n h l = omega arith
begins Icon m n h l = omega arith
begins Logo m n h l = omega arith

module _ (kind : Kind) (m : List ℕ) (g : Graphic) (a : Accepted kind m g) where
  -- the part ahead ends where the bitmap begins
  pub ahead_long : length (ahead_octets kind g.ahead) ≡ start_of kind m
  ahead_long =
      let w = ap length (found_written kind m (omega (arith, a.long)) a.stand) in
      let x : length (ahead_octets kind (ahead_in kind m)) ≡ start_of kind m =
      omega (arith, simp length-append at w, length-drop (start_of kind m) m, a.long) in
      ap (λ (y : Ahead). length (ahead_octets kind y)) (sym a.said) ∙ x

  -- the image is the rest of the message behind part ahead and header
  pub image_rest : g.bitmap.image ≡ drop (start_of kind m + 4) m
  image_rest =
      ap (drop 4) (bitmap-write-read (drop (start_of kind m) m) g.bitmap a.reads) ∙ drop-drop 4 (start_of kind m) m

  said_is : graphic (ahead_in kind m) g.bitmap ≡ g
  said_is = ap (λ (x : Ahead). graphic x g.bitmap) a.said

  -- each field is the stretch of the message that is said to be it
  pub field_stretch : (f : Field) → field_of f g ≡ take (length (field_of f g)) (drop (field_start kind f g) m)
  field_stretch f =
      let n : length (ahead_octets kind (ahead_in kind m)) ≡ start_of kind m = ap (λ (x : Ahead). length (ahead_octets kind x)) a.said ∙ ahead_long in
      let e : drop (length (ahead_octets kind (ahead_in kind m)) + 4) m ≡ g.bitmap.image = ap (λ (k : ℕ). drop (k + 4) m) n ∙ sym image_rest in
      subst (λ (x : Graphic). field_of f x ≡ take (length (field_of f x)) (drop (field_start kind f x) m)) said_is (told kind m g.bitmap e f)

  field_begins : (f : Field) → field_start kind f g ≤ length m
  field_begins Mcc = begins kind m 1 (omega arith) (omega (arith, a.long))
  field_begins Mnc = begins kind m 4 (omega arith) (omega (arith, a.long))
  field_begins Date = begins kind m 6 (omega arith) (omega (arith, a.long))
  field_begins Image = omega (arith, ahead_long, a.long)

  -- and lies in the message
  pub field_inside : (f : Field) → field_start kind f g + length (field_of f g) ≤ length m
  field_inside f = ends (field_of f g) m (field_start kind f g) (field_stretch f) (field_begins f)

image_stretch : (kind : Kind) (m : List ℕ) (g : Graphic) → Accepted kind m g → stretch_of kind Image g ≡ stretch (start_of kind m + 4) (length m - (start_of kind m + 4))
image_stretch kind m g a =
    ap₂ stretch (ap (λ (n : ℕ). n + 4) (ahead_long kind m g a)) (ap length (image_rest kind m g a) ∙ length-drop (start_of kind m + 4) m)

pub fields_same : {p q r s p' q' r' s' : Stretch} → p ≡ p' → q ≡ q' → r ≡ r' → s ≡ s'
    → ◌≡◌ {A = Fields} (record { mcc = p; mnc = q; date = r; image = s }) (record { mcc = p'; mnc = q'; date = r'; image = s' })
fields_same a b c d = cc

said_fields : (kind : Kind) (m : List ℕ) (b : Bitmap) → Accepted kind m (graphic (ahead_in kind m) b)
    → fields_of kind (graphic (ahead_in kind m) b) ≡ fields_at kind (start_of kind m) (length m)
said_fields Plain m b a = ap image_alone (image_stretch Plain m (graphic (ahead_in Plain m) b) a)
said_fields Icon m b a = ap image_alone (image_stretch Icon m (graphic (ahead_in Icon m) b) a)
said_fields Logo m b a =
    let f = found_formed Logo m a.stand in
    let x : stretch 1 (length (take 3 (drop 1 m))) ≡ stretch 1 3 = ap (stretch 1) f.0.count in
    let y : stretch 4 (length (take 2 (drop 4 m))) ≡ stretch 4 2 = ap (stretch 4) f.1.count in
    let n : length (take (date_octets (drop 6 m)) (drop 6 m)) ≡ 6 + date_octets (drop 6 m) + 1 - 7 =
    length-take-le (date_octets (drop 6 m)) (drop 6 m) (omega (arith, a.long, length-drop 6 m)) ∙ omega arith in
    let z : stretch 6 (length (take (date_octets (drop 6 m)) (drop 6 m))) ≡ stretch 6 (6 + date_octets (drop 6 m) + 1 - 7) = ap (stretch 6) n in
    let i = image_stretch Logo m (graphic (ahead_in Logo m) b) a in
    fields_same x y z i

-- the stretches of all fields, as the code says them
pub fields_right : (kind : Kind) (m : List ℕ) (g : Graphic) → Accepted kind m g → fields_of kind g ≡ fields_at kind (start_of kind m) (length m)
fields_right kind m g a =
    let e = said_is kind m g a in
    subst (λ (x : Graphic). Accepted kind m x → fields_of kind x ≡ fields_at kind (start_of kind m) (length m)) e (said_fields kind m g.bitmap) a
