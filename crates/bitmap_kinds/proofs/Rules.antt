-- The rules of bitmaps of a kind by plain conditions: when each outcome is met, and that reading and writing undo each other.
use Prim.Native.Nat.{ℕ, ◌+◌, ◌≤◌, ◌<◌}
use native.Mathlib.Omega.{arith}
use mathlib.Core.Path.{◌≡◌, refl, sym, ap, ap₂, subst, ◌∙◌}
use mathlib.Core.Logic.{◌↔◌}
use mathlib.Core.Bool.{Bool, true, false}
use mathlib.Core.List.{List, ◌++◌}
use lib.ListN.{length, drop, length-append}
use lib.Seq.{drop-append_seam}
use lib.Dec.{ltb}
use borrow.Author.Tests.{ltb-true, ltb-false, lt-ltb, le-ltb}
use Rattle.bits.specs.Outcome.{Outcome, accepted, refused}
use Rattle.bits.specs.Bits.{Octets}
use Rattle.bits.proofs.Octets.{octets_drop}
use Rattle.bitmap.specs.Bitmap.{Bitmap, writing as bitmapOctets, reading as bitmapReading}
use Rattle.bitmap.proofs.Rules.{read_written as bitmap-read-written, write_read as bitmap-write-read, read_well_formed as bitmap-well-formed, refused_not}
use Rattle.bitmap_ahead.specs.declared.Kind.{Kind}
use Rattle.bitmap_ahead.specs.Ahead.{Ahead, WellFormed as WellFormedAhead, ahead_octets, start_of, ahead_in, stands}
use Rattle.bitmap_ahead.proofs.Rules.{written_found, found_formed, found_written}
use Rattle.bitmap_kinds.specs.Kinds.{Graphic, WellFormed, writing, with_ahead, reading}

-- a bitmap and what is said ahead of it
abbrev pub graphic : Ahead → Bitmap → Graphic
graphic a b = record { ahead = a; bitmap = b }

-- ---- when each outcome is met

-- 2: part ahead and header are not all there
pub reading_short : (kind : Kind) (m : List ℕ) → length m < start_of kind m + 4 → reading kind m ≡ refused 2 0
unfolding reading
reading_short kind m l = rw (lt-ltb (length m) (start_of kind m + 4) l) refl

-- 20: they are, and the part ahead does not stand
pub reading_wrong : (kind : Kind) (m : List ℕ) → start_of kind m + 4 ≤ length m → stands kind m ≡ false → reading kind m ≡ refused 20 0
unfolding reading
reading_wrong kind m l e = rw (le-ltb (length m) (start_of kind m + 4) l, e) refl

-- else what follows is read as a plain bitmap
pub reading_behind : (kind : Kind) (m : List ℕ) → start_of kind m + 4 ≤ length m → stands kind m ≡ true
    → reading kind m ≡ with_ahead (ahead_in kind m) (bitmapReading (drop (start_of kind m) m))
unfolding reading
reading_behind kind m l e = rw (le-ltb (length m) (start_of kind m + 4) l, e) refl

-- the three together
pub data ReadingCase (kind : Kind) (m : List ℕ) : Type 0 where
  short : length m < start_of kind m + 4 → ReadingCase kind m
  wrong : start_of kind m + 4 ≤ length m → stands kind m ≡ false → ReadingCase kind m
  right : start_of kind m + 4 ≤ length m → stands kind m ≡ true → ReadingCase kind m

by_stands : (kind : Kind) (m : List ℕ) → start_of kind m + 4 ≤ length m → (t : Bool) → stands kind m ≡ t → ReadingCase kind m
by_stands kind m l true e = right l e
by_stands kind m l false e = wrong l e

by_length : (kind : Kind) (m : List ℕ) (t : Bool) → ltb (length m) (start_of kind m + 4) ≡ t → ReadingCase kind m
by_length kind m true e = short (ltb-true (length m) (start_of kind m + 4) e)
by_length kind m false e = by_stands kind m (ltb-false (length m) (start_of kind m + 4) e) (stands kind m) refl

pub reading_is : (kind : Kind) (m : List ℕ) → ReadingCase kind m
reading_is kind m = by_length kind m (ltb (length m) (start_of kind m + 4)) refl

-- ---- what an accepted message is

-- its part ahead stands and is all there, and what follows is a plain bitmap
pub record Accepted (kind : Kind) (m : List ℕ) (g : Graphic) : Type 0 where
  pub long : start_of kind m + 4 ≤ length m
  pub stand : stands kind m ≡ true
  pub said : ahead_in kind m ≡ g.ahead
  pub reads : bitmapReading (drop (start_of kind m) m) ≡ accepted g.bitmap

by_bitmap : (kind : Kind) (m : List ℕ) (g : Graphic) → start_of kind m + 4 ≤ length m → stands kind m ≡ true → (o : Outcome Bitmap)
    → bitmapReading (drop (start_of kind m) m) ≡ o → with_ahead (ahead_in kind m) o ≡ accepted g → Accepted kind m g
by_bitmap kind m g l t (accepted b) e f =
    let x : graphic (ahead_in kind m) b ≡ g = cc in
    record { long = l; stand = t; said = ap (λ (y : Graphic). y.ahead) x; reads = e ∙ ap (λ (y : Graphic). accepted y.bitmap) x }
by_bitmap kind m g l t (refused n p) e f = refused_not f

by_case : (kind : Kind) (m : List ℕ) (g : Graphic) → ReadingCase kind m → reading kind m ≡ accepted g → Accepted kind m g
by_case kind m g (short l) e = refused_not (sym (reading_short kind m l) ∙ e)
by_case kind m g (wrong l t) e = refused_not (sym (reading_wrong kind m l t) ∙ e)
by_case kind m g (right l t) e =
    by_bitmap kind m g l t (bitmapReading (drop (start_of kind m) m)) refl (sym (reading_behind kind m l t) ∙ e)

pub accepted_is : (kind : Kind) (m : List ℕ) (g : Graphic) → reading kind m ≡ accepted g → Accepted kind m g
accepted_is kind m g e = by_case kind m g (reading_is kind m) e

-- and such a message is accepted
pub is_accepted : (kind : Kind) (m : List ℕ) (g : Graphic) → Accepted kind m g → reading kind m ≡ accepted g
is_accepted kind m g a =
    reading_behind kind m a.long a.stand ∙ ap₂ with_ahead a.said a.reads

-- ---- reading and writing undo each other

-- reading the writing of something well formed gives it back
pub read_written : (kind : Kind) (g : Graphic) → WellFormed kind g → reading kind (writing kind g) ≡ accepted g
read_written kind g f =
    let w = written_found kind g.ahead (bitmapOctets g.bitmap) f.ahead in
    let d : drop (start_of kind (writing kind g)) (writing kind g) ≡ bitmapOctets g.bitmap =
    ap (λ (n : ℕ). drop n (writing kind g)) w.start ∙ drop-append_seam (ahead_octets kind g.ahead) (bitmapOctets g.bitmap) in
    is_accepted kind (writing kind g) g (record {
      long = simp length-append (omega (arith, w.start));
      stand = w.stand;
      said = w.said;
      reads = ap bitmapReading d ∙ bitmap-read-written g.bitmap f.bitmap;
    })

-- writing what was read gives the same octets
pub write_read : (kind : Kind) (m : List ℕ) (g : Graphic) → reading kind m ≡ accepted g → writing kind g ≡ m
write_read kind m g e =
    let a = accepted_is kind m g e in
    ap₂ (λ (x : Ahead) (y : List ℕ). ahead_octets kind x ++ y) (sym a.said) (bitmap-write-read (drop (start_of kind m) m) g.bitmap a.reads)
    ∙ found_written kind m (omega (arith, a.long)) a.stand

-- what is read from octets is well formed
pub read_well_formed : (kind : Kind) (m : List ℕ) (g : Graphic) → Octets m → reading kind m ≡ accepted g → WellFormed kind g
read_well_formed kind m g o e =
    let a = accepted_is kind m g e in
    record {
      ahead = subst (WellFormedAhead kind) a.said (found_formed kind m a.stand);
      bitmap = bitmap-well-formed (drop (start_of kind m) m) g.bitmap (octets_drop (start_of kind m) m o) a.reads;
    }

-- reading m as a kind accepts g exactly if g is well formed as that kind and its writing is m
pub reads_exactly : (kind : Kind) (m : List ℕ) (g : Graphic) → Octets m → (reading kind m ≡ accepted g) ↔ (WellFormed kind g × (writing kind g ≡ m))
reads_exactly kind m g o = (
  λ e. (read_well_formed kind m g o e, write_read kind m g e),
  λ f. ap (reading kind) (sym f.1) ∙ read_written kind g f.0,
)

-- no message is the writing of two
pub one_graphic : (kind : Kind) (g h : Graphic) → WellFormed kind g → WellFormed kind h → writing kind g ≡ writing kind h → g ≡ h
one_graphic kind g h f k e =
    let z : accepted g ≡ accepted h = sym (read_written kind g f) ∙ ap (reading kind) e ∙ read_written kind h k in cc
