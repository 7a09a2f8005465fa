-- What `write` returns and leaves keeps its promise.
use Prim.Native.Nat.{ℕ, ◌+◌, ◌-◌, ◌≤◌, ◌<◌}
use native.Mathlib.Omega.{arith}
use mathlib.Core.Path.{◌≡◌, refl, sym, ap, ◌∙◌}
use mathlib.Core.Bool.{Bool, true, false, not}
use mathlib.Core.List.{List, ◌++◌}
use lib.ListN.{length, take, drop, length-append}
use borrow.Author.Tests.{lt-leb, le-leb, not-true, not-false}
use Rattle.bits.specs.Outcome.{accepted}
use Rattle.bits.specs.Lent.{over}
use Rattle.std.specs.Prelude.{Result, Ok, Err, ⊤}
use Rattle.bits.specs.Refusals.{refusal}
use Rattle.bits.specs.declared.refusal.Refusal.{Refusal}
use Rattle.written.proofs.Unique.{written, unwritten}
use Rattle.bitmap.specs.Bitmap.{writing as bitmapOctets, judged as bitmapJudged}
use Rattle.bitmap.specs.Promises.{verdict}
use Rattle.bitmap.proofs.Rules.{bitmap}
use Rattle.bitmap.proofs.Exits.{judged_right, judged_wrong}
use Rattle.bitmap_ahead.specs.declared.Kind.{Kind}
use Rattle.bitmap_ahead.specs.Ahead.{Ahead, ahead_octets, taken}
use Rattle.bitmap_ahead.proofs.Putting.{over_long, more, pasted}
use Rattle.bitmap_kinds.specs.Kinds.{writing, judged, writing_into}
use Rattle.bitmap_kinds.specs.Promises.{WritePromise}
use Rattle.bitmap_kinds.proofs.Rules.{graphic}

pub asked : (kind : Kind) (a : Ahead) {t : Bool} → t ≡ taken kind a → not t ≡ false → taken kind a ≡ true
asked kind a {t} e h = sym e ∙ not-false t h

module _ (kind : Kind) (a : Ahead) (width height : ℕ) (image out : List ℕ) {t : Bool} (e : t ≡ taken kind a) where
  -- what is refused for what is said ahead
  pub write_ahead : {r : Refusal} → not t ≡ true → r ≡ refusal 20 0 → WritePromise kind a width height image out (Err r) out
  unfolding judged writing_into
  write_ahead h x =
      let f : taken kind a ≡ false = sym e ∙ not-true t h in
      unwritten (writing_into (length out) kind a width height image) out (rw (x, f) refl)

  module _ {v : Result ⊤ Refusal} (h : not t ≡ false) (k : v ≡ verdict (bitmapJudged width height image)) where
    said : taken kind a ≡ true
    said = asked kind a e h

    -- what is refused for its sizes or its image
    pub write_fault : {r : Refusal} → v ≡ Err r → WritePromise kind a width height image out (Err r) out
    unfolding judged writing_into
    write_fault z = unwritten (writing_into (length out) kind a width height image) out (rw (said, judged_wrong width height image k z) refl)

    module _ {s : ℕ} {u : ⊤} (z : v ≡ Ok u) (l : s ≡ length (ahead_octets kind a)) where
      right : bitmapJudged width height image ≡ accepted (bitmap width height image)
      right = judged_right width height image k z

      long : length (writing kind (graphic a (bitmap width height image))) ≡ s + 4 + length image
      long = simp length-append (omega (arith, l))

      -- what is refused for want of room
      pub write_full : {r : Refusal} → length out < s + 4 + length image → r ≡ refusal 11 0 → WritePromise kind a width height image out (Err r) out
      unfolding judged writing_into
      write_full y x =
          let q = lt-leb (length (writing kind (graphic a (bitmap width height image)))) (length out) (omega (arith, long, y)) in
          unwritten (writing_into (length out) kind a width height image) out (rw (x, said, right, q) refl)

      -- what is written
      pub write_done : {x y : List ℕ} → s + 4 + length image ≤ length out → y ≡ over (ahead_octets kind a) out
          → x ≡ bitmapOctets (bitmap width height image) ++ drop (length image + 4) (take (length y - s) (drop s y))
          → WritePromise kind a width height image out (Ok (record { 0 = s + 4 + length image })) (take s y ++ (x ++ drop (length y - s) (drop s y)))
      unfolding judged writing_into
      write_done {x} {y} i j g =
          let w = bitmapOctets (bitmap width height image) in
          let n : length image + 4 ≡ length w = omega arith in
          let b : x ≡ w ++ drop (length w) (take (length y - s) (drop s y)) =
          g ∙ ap (λ (c : ℕ). w ++ drop c (take (length y - s) (drop s y))) n in
          let m : length y ≡ length out = ap length j ∙ over_long (ahead_octets kind a) out (omega (arith, l, i)) in
          let p : take s y ++ (x ++ drop (length y - s) (drop s y)) ≡ over (writing kind (graphic a (bitmap width height image))) out =
          pasted w y s (omega (arith, m, i)) b ∙ more (ahead_octets kind a) w out j l in
          let q = le-leb (length (writing kind (graphic a (bitmap width height image)))) (length out) (omega (arith, long, i)) in
          written
          (writing_into (length out) kind a width height image)
          out
          (take s y ++ (x ++ drop (length y - s) (drop s y)))
          (writing kind (graphic a (bitmap width height image)))
          (rw (said, right, q) refl)
          (sym long)
          p

pub ruleset writes = (asked, write_ahead, write_fault, write_full, write_done)
