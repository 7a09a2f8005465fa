-- Samples of an element in which one code is due, and any other is refused by the number that the caller gives.
use Rattle.std.specs.Prelude.{ℕ, ◌≡◌, [], ◌∷◌, eqb, Result, Ok, Err}
use Rattle.bits.specs.Bits.{bits_of}
use Rattle.bits.specs.Places.{place}
use Rattle.tone.specs.Reading.{element}
use Rattle.tone_elements.specs.declared.Seen.{Seen}
use Rattle.tone_elements.specs.declared.Fault.{Fault}
use Rattle.tone_elements.specs.Answers.{seen_or_fault}

-- what is answered of the seven bits at a place of the octet 4A, which is 01001010, where a code is due and another has a number
abbrev pub due_at : ℕ → ℕ → ℕ → Result (Seen ℕ) Fault
due_at code number at = seen_or_fault (element 7 (eqb code) number (bits_of (0x4A ∷ [])) at)

-- what was read, or the number and the place of the refusal
pub record Dues : Type 0 where
  -- 0100101 is 37, the programming part, and 1001010 is 74: the code due, and the place behind it
  pub met : due_at 37 8 0 ≡ Ok (record { value = 37; next = place 7 })
  pub met_behind : due_at 74 8 1 ≡ Ok (record { value = 74; next = place 8 })
  -- another code, by a number of document 01 and by one that it does not give, at the element's place
  pub other : due_at 36 8 0 ≡ Err (record { number = 8; place = place 0 })
  pub other_number : due_at 36 99 1 ≡ Err (record { number = 99; place = place 1 })
  -- six bits are left: cut short, which is 2 whatever the number
  pub cut : due_at 36 99 2 ≡ Err (record { number = 2; place = place 2 })
