-- What each call promises.
use Rattle.std.specs.Prelude.{ℕ, ◌≡◌, Bool, List, length}
use Rattle.std.specs.Borrow.{Bor}
use Rattle.bits.specs.Choice.{pick}
use Rattle.bits.specs.Places.{octet_count}
use Rattle.tone.specs.Tone.{per_character}
use Rattle.label.specs.declared.Supplier.{Supplier}
use Rattle.label.specs.declared.Supplier.TheVariants.{Title, StandIn}
use Rattle.label.specs.Label.{left_octets, stands_in, label_of}

-- ---- supplied

-- the numbers of an answer: the buffer, 0 for the title and 1 for the stand-in, and the label's octets
pub record Numbers : Type 0 where
  pub buffer : ℕ
  pub octets : ℕ

-- each case's numbers
abbrev pub numbers : Supplier → Numbers
numbers (Title n) = record { buffer = 0; octets = n.0 }
numbers (StandIn n) = record { buffer = 1; octets = n.0 }

-- the answer that the rules ask for
abbrev pub supplied_answer : Bool → List ℕ → List ℕ → Supplier
supplied_answer unicode title standIn =
    pick (stands_in unicode title) (StandIn (octet_count (length standIn))) (Title (octet_count (left_octets (per_character unicode) title)))

-- the numbers that the rules ask for
abbrev pub supplied_numbers : Bool → List ℕ → List ℕ → Numbers
supplied_numbers unicode title standIn =
    record { buffer = pick (stands_in unicode title) 1 0; octets = length (label_of unicode title standIn) }

-- `supplied` answers r
pub record SuppliedPromise (title : List ℕ) (unicode : Bool) (standIn : List ℕ) (r : Supplier) : Type 0 where
  pub answer : r ≡ supplied_answer unicode title standIn
  pub said : numbers r ≡ supplied_numbers unicode title standIn

-- ---- label

-- `label` hands back the stretch r: the label's octets, at the start of the buffer that supplied them
pub record LabelPromise (title : Bor (List ℕ)) (unicode : Bool) (standIn r : Bor (List ℕ)) : Type 0 where
  pub octets : r.now ≡ label_of unicode title.now standIn.now
  pub place : r.ref_ptr ≡ pick (stands_in unicode title.now) standIn.ref_ptr title.ref_ptr
