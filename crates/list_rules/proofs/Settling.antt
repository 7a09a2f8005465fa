-- A body's effect on the settings, applied twice, is its effect once.
use Prim.Native.Nat.{ℕ}
use mathlib.Core.Path.{◌≡◌, refl, sym, ap, ◌∙◌}
use mathlib.Core.Logic.{◌⊎◌, inl, inr, ⊎_elim}
use mathlib.Core.Bool.{Bool, true, false}
use mathlib.Core.List.{List, [], ◌∷◌}
use lib.Dec.{eqb}
use borrow.Author.Tests.{eqb-true}
use Rattle.bits.specs.Choice.{pick}
use Rattle.tone.specs.Table.{kind, payload}
use Rattle.list_rules.specs.declared.Settings.{Settings}
use Rattle.list_rules.specs.Sounding.{State, applied, following}
use Rattle.list_rules.specs.Playing.{step, pass}

-- a code after an instruction: the instruction's own where it is of that kind
abbrev pub coded : ℕ → ℕ → ℕ → ℕ
coded k v e = pick (eqb (kind e) k) (payload e) v

-- a code after a body: that of its last instruction of that kind
abbrev pub last_code : ℕ → ℕ → List ℕ → ℕ
last_code k v [] = v
last_code k v (e ∷ b) = last_code k (coded k v e) b

-- the settings, code by code
abbrev pub codes : Settings → List ℕ → Settings
codes s b = record { scale = last_code 2 s.scale b; style = last_code 3 s.style b; tempo = last_code 4 s.tempo b; volume = last_code 5 s.volume b }

-- a test holds, or it does not
pub either : {P : Type 0} (t : Bool) → (t ≡ true → P) → (t ≡ false → P) → P
either true f g = f refl
either false f g = g refl

applied_codes : (s : Settings) (e : ℕ) → applied s e ≡ codes s (e ∷ [])
unfolding applied
applied_codes s e =
    either (eqb (kind e) 2) (λ h. rw (eqb-true (kind e) 2 h)) (λ h₂.
    either (eqb (kind e) 3) (λ h. rw (eqb-true (kind e) 3 h)) (λ h₃.
    either (eqb (kind e) 4) (λ h. rw (eqb-true (kind e) 4 h)) (λ h₄.
    either (eqb (kind e) 5) (λ h. rw (eqb-true (kind e) 5 h)) (λ h₅. rw (h₂, h₃, h₄, h₅)))))

-- whatever the fraction, a pass leaves each code as its last instruction of that kind sets it
pub pass_codes : (s : State) (b : List ℕ) → (pass s b).after.settings ≡ codes s.settings b
unfolding step
pass_codes s [] = refl
pass_codes s (e ∷ b) = pass_codes (following s e) b ∙ ap (λ (r : Settings). codes r b) (applied_codes s.settings e)

-- a body sets a code whatever it was, or leaves it
fixes : (k : ℕ) (b : List ℕ) → ((v w : ℕ) → last_code k v b ≡ last_code k w b) ⊎ ((v : ℕ) → last_code k v b ≡ v)
fixes k [] = inr (λ v. refl)
fixes k (e ∷ b) = go (eqb (kind e) k) (fixes k b)
  where
    go : (t : Bool) → ((v w : ℕ) → last_code k v b ≡ last_code k w b) ⊎ ((v : ℕ) → last_code k v b ≡ v)
        → ((v w : ℕ) → last_code k (pick t (payload e) v) b ≡ last_code k (pick t (payload e) w) b) ⊎ ((v : ℕ) → last_code k (pick t (payload e) v) b ≡ v)
    go true f = inl (λ v w. refl)
    go false f = f

settled : (k v : ℕ) (b : List ℕ) → last_code k (last_code k v b) b ≡ last_code k v b
settled k v b = ⊎_elim (λ f. f (last_code k v b) v) (λ f. f (last_code k v b)) (fixes k b)

-- a pass from the settings that a pass leaves, whatever the fractions, leaves them
pub pass_settles : (s r : State) (b : List ℕ) → r.settings ≡ (pass s b).after.settings → (pass r b).after.settings ≡ (pass s b).after.settings
pass_settles s r b e =
    pass_codes r b ∙ ap (λ (c : Settings). codes c b) (e ∙ pass_codes s b)
    ∙ (λ i. record {
      scale = settled 2 s.settings.scale b i;
      style = settled 3 s.settings.style b i;
      tempo = settled 4 s.settings.tempo b i;
      volume = settled 5 s.settings.volume b i;
    })
    ∙ sym (pass_codes s b)
