-- A tone inside something larger: where it stands there, and what reading that stretch alone gives.
use Prim.Native.Nat.{ℕ, ◌+◌, ◌-◌, ◌*◌, ◌≤◌}
use native.Mathlib.Omega.{arith}
use mathlib.Core.Path.{◌≡◌, sym, ap, ◌∙◌}
use mathlib.Core.Bool.{Bool}
use mathlib.Core.List.{List, ◌++◌}
use lib.ListN.{length, take, drop, length-drop, take-append-drop}
use lib.Seq.{length-take-le, take_at, drop-drop}
use Rattle.bits.specs.Bits.{bits_of, filler_to, place_after}
use Rattle.bits.specs.Outcome.{accepted}
use Rattle.bits.proofs.Octets.{length_bits_of, bits_of_append, drop_bits_of}
use Rattle.tone.specs.Tone.{Tone}
use Rattle.tone.specs.Writing.{song_bits, tone_bits, most_octets}
use Rattle.tone.specs.Reading.{got, whole_tone, read_tone}
use Rattle.tone.proofs.Rows.{bits_from, whole_exact}
use Rattle.tone.proofs.Demand2.{read_formed, bits_accepted}

-- ---- from an octet's boundary on

-- whole octets ahead do not change the filler
pub filler_from_octet : (s n : ℕ) → filler_to (place_after s + n) ≡ filler_to n
filler_from_octet s n = omega arith

-- a tone that begins where an octet begins has the bits that it has alone
pub bits_from_octet : (s : ℕ) (t : Tone) → bits_from (place_after s) t ≡ tone_bits t
unfolding tone_bits
bits_from_octet s t = rw (filler_from_octet s (length (song_bits t)))

-- ---- a stretch of octets

-- a stretch inside has as many octets as lie between its ends
pub length_stretch : (m : List ℕ) (s e : ℕ) → e ≤ length m → length (take (e - s) (drop s m)) ≡ e - s
length_stretch m s e k = length-take-le (e - s) (drop s m) (omega (arith, length-drop s m))

-- from where a stretch begins, its own bits come first, and then those behind its end
pub bits_stretch : (m : List ℕ) (s e : ℕ) → s ≤ e → drop (place_after s) (bits_of m) ≡ bits_of (take (e - s) (drop s m)) ++ drop (place_after e) (bits_of m)
bits_stretch m s e h =
    let own = take (e - s) (drop s m) in
    let n : s + (e - s) ≡ e = omega arith in
    let d : drop (e - s) (drop s m) ≡ drop e m = drop-drop (e - s) s m ∙ ap (λ (x : ℕ). drop x m) n in
    drop_bits_of s m ∙ ap bits_of (sym (take-append-drop (e - s) (drop s m))) ∙ bits_of_append own (drop (e - s) (drop s m))
    ∙ ap (λ (x : List Bool). bits_of own ++ x) (ap bits_of d ∙ sym (drop_bits_of e m))

-- ---- a tone that is a stretch

-- a tone that stands between two octets of something larger is what reading that stretch alone accepts
pub stretch_reads : (m : List ℕ) (s e : ℕ) {t : Tone} → s ≤ e → e ≤ length m → e - s ≤ most_octets
    → whole_tone (bits_of m) (place_after s) ≡ got t (place_after e) → read_tone (take (e - s) (drop s m)) ≡ accepted t
stretch_reads m s e {t} h k l q =
    let own = take (e - s) (drop s m) in
    let behind = drop (place_after e) (bits_of m) in
    let a = whole_exact.sound (bits_of m) (place_after s) (omega (arith, length_bits_of m)) q in
    let b = bits_from_octet s t in
    let n : length (bits_of own) ≡ 8 * (e - s) = omega (arith, length_bits_of own, length_stretch m s e k) in
    let n' : length (tone_bits t) ≡ 8 * (e - s) = omega (arith, a.end, ap length b) in
    let w : bits_of own ++ behind ≡ tone_bits t ++ behind = sym (bits_stretch m s e h) ∙ a.here ∙ ap (λ (x : List Bool). x ++ behind) b in
    let same : bits_of own ≡ tone_bits t = sym (take_at (bits_of own) behind (8 * (e - s)) n) ∙ ap (take (8 * (e - s))) w ∙ take_at (tone_bits t) behind (8 * (e - s)) n' in
    bits_accepted own t a.good (rw (length_stretch m s e k) l) same

-- and back: what reading a stretch alone accepts is the tone that stands there
pub reads_stretch : (m : List ℕ) (s e : ℕ) {t : Tone} → s ≤ e → e ≤ length m
    → read_tone (take (e - s) (drop s m)) ≡ accepted t → whole_tone (bits_of m) (place_after s) ≡ got t (place_after e)
reads_stretch m s e {t} h k q =
    let own = take (e - s) (drop s m) in
    let behind = drop (place_after e) (bits_of m) in
    let f = read_formed own t q in
    let b : bits_of own ≡ bits_from (place_after s) t = f.1 ∙ sym (bits_from_octet s t) in
    let n : place_after s + length (bits_from (place_after s) t) ≡ place_after e = omega (arith, ap length b, length_bits_of own, length_stretch m s e k) in
    whole_exact.complete (bits_of m) (place_after s) t behind (omega (arith, length_bits_of m)) f.0 (bits_stretch m s e h ∙ ap (λ (x : List Bool). x ++ behind) b)
    ∙ ap (λ (x : ℕ). got t x) n
