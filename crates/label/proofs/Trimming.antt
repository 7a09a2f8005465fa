-- Trailing spaces are left out, one after the other from the title's end.
use Prim.Native.Nat.{ℕ, zero, suc, ◌+◌, ◌-◌, ◌*◌, ◌/◌, ◌%◌, ◌≤◌, ◌<◌}
use native.Mathlib.Omega.{arith}
use native.Mathlib.Nat.{mul-suc}
use mathlib.Core.Path.{◌≡◌, refl, sym, ap, ◌∙◌}
use mathlib.Core.Bool.{Bool, true, false}
use mathlib.Core.List.{List}
use lib.ListN.{length}
use borrow.Author.Tests.{eqb-false, eq-eqb, ne_eqb}
use Rattle.tone.specs.Tone.{per_character}
use Rattle.label.specs.Label.{character, trimmed, left_octets, odd}

-- a space at the end goes
pub trimmed_space : (w : ℕ) (title : List ℕ) (k : ℕ) → character w title (w * k) ≡ 32 → trimmed w title (suc k) ≡ trimmed w title k
unfolding trimmed
trimmed_space w title k e = rw (eq-eqb (character w title (w * k)) 32 e) refl

-- any other character stays
pub trimmed_other : (w : ℕ) (title : List ℕ) (k : ℕ) → (character w title (w * k) ≡ 32 → ⊥) → trimmed w title (suc k) ≡ suc k
unfolding trimmed
trimmed_other w title k e = rw (ne_eqb (character w title (w * k)) 32 e) refl

-- octets that are not odd under UNICODE are whole characters
pub whole : (unicode : Bool) (title : List ℕ) → odd unicode title ≡ false → per_character unicode * (length title / per_character unicode) ≡ length title
unfolding odd
whole true title h = omega (arith, eqb-false (length title % 2) 1 h)
whole false title h = omega arith

-- with n characters to go, which end at an octet
pub record Trimming (unicode : Bool) (title : List ℕ) (w end : ℕ) : Type 0 where
  pub wide : w ≡ per_character unicode
  pub some : 1 ≤ w
  pub n : ℕ
  pub here : end ≡ w * n
  pub inside : end ≤ length title
  pub same : left_octets (per_character unicode) title ≡ w * trimmed w title n

-- a character has an octet at least
pub some_octet : (unicode : Bool) → 1 ≤ per_character unicode
some_octet true = omega arith
some_octet false = omega arith

pub trim_begins : {unicode : Bool} {title : List ℕ} {w : ℕ} → w ≡ per_character unicode → odd unicode title ≡ false → Trimming unicode title w (length title)
unfolding left_octets
trim_begins {unicode} {title} {w} h o =
    record { wide = h; some = rw h (some_octet unicode); n = length title / w; here = sym (rw h (whole unicode title o)); inside = omega arith; same = rw h refl }

pub trim_ends : {unicode : Bool} {title : List ℕ} {w end : ℕ} → Trimming unicode title w end → end ≤ 0 → end ≡ left_octets (per_character unicode) title
unfolding trimmed
trim_ends {unicode} {title} {w} {end} t h = go t.n t.here t.same
  where
    go : (n : ℕ) → end ≡ w * n → left_octets (per_character unicode) title ≡ w * trimmed w title n → end ≡ left_octets (per_character unicode) title
    go zero e s = e ∙ sym s
    go (suc n) e s = absurd (omega (arith, mul-suc w n, t.some))

module _ {unicode : Bool} {title : List ℕ} {w end : ℕ} (t : Trimming unicode title w end) (h : 0 < end) where
  -- the last of the characters to go
  last : (k : ℕ) × (t.n ≡ suc k) × (end ≡ w * k + w)
  last = go t.n refl t.here
    where
      go : (n : ℕ) → t.n ≡ n → end ≡ w * n → (k : ℕ) × (t.n ≡ suc k) × (end ≡ w * k + w)
      go zero e f = absurd (omega arith)
      go (suc k) e f = (k, e, f ∙ mul-suc w k)

  pub trim_room : w ≤ end
  trim_room = omega (arith, last.2)

  pub trim_inside : end - w + per_character unicode ≤ length title
  trim_inside = omega (arith, last.2, t.wide, t.inside)

  -- it starts w octets ahead
  at : end - w ≡ w * last.0
  at = omega (arith, last.2)

  module _ {r : ℕ} (e : r ≡ character (per_character unicode) title (end - w)) where
    read : character w title (w * last.0) ≡ r
    read = sym (rw (← t.wide, at) at e)

    -- what is left of the characters to go
    leaves : {x : ℕ} → trimmed w title (suc last.0) ≡ x → left_octets (per_character unicode) title ≡ w * x
    leaves q = t.same ∙ ap (λ (x : ℕ). w * x) (ap (trimmed w title) last.1 ∙ q)

    pub trim_stop : (r ≡ 32 → ⊥) → end ≡ left_octets (per_character unicode) title
    trim_stop x = last.2 ∙ sym (leaves (trimmed_other w title last.0 (λ y. x (sym read ∙ y))) ∙ mul-suc w last.0)

    pub trim_on : r ≡ 32 → Trimming unicode title w (end - w)
    trim_on x =
        record { wide = t.wide; some = t.some; n = last.0; here = at; inside = omega (arith, t.inside); same = leaves (trimmed_space w title last.0 (read ∙ x)) }

pub ruleset trims = (trim_begins, trim_ends, trim_room, trim_inside, trim_stop, trim_on)
