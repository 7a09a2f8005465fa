-- The two forms of an entry determine each other: its cells, and the record.
use Prim.Native.Nat.{ℕ, zero, suc, ◌+◌, ◌*◌, ◌/◌, ◌%◌, ◌≤◌, ◌<◌}
use native.Mathlib.Omega.{arith}
use mathlib.Core.Path.{◌≡◌, refl, sym, ap, ap₂, ◌∙◌}
use mathlib.Core.List.{List, [], ◌∷◌, ◌++◌}
use lib.ListN.{length, get_or, drop, set, length-append, length-drop}
use lib.Seq.{get_or-drop, drop-cons, set_at, append_snoc}
use Rattle.list_rules.specs.declared.Entry.{Entry}
use Rattle.list_rules.specs.Sounding.{packed, origin, in_cells, entry_cells, numbers, unpacked, entry_at, entries_of}
use Rattle.list_rules.specs.Ranges.{Bounded, AllBounded}

-- a packed entry within bounds is small
pub packed_small : (r : Entry) → Bounded r → packed r ≤ 13103
packed_small r b = omega (arith, b.note, b.scale, b.style, b.volume)

-- and so is its origin: the last instruction of the last header's
pub origin_small : (r : Entry) → Bounded r → origin r ≤ 65278
origin_small r b = omega (arith, b.header, b.position)

-- which is below 255 × 256 + 255
pub origin_most : (r : Entry) → Bounded r → origin r < 255 * 256 + 255
origin_most r b = omega (arith, origin_small r b)

-- an entry has as many cells as is said
pub cells_number : (r : Entry) → length (in_cells r) ≡ entry_cells
cells_number r = refl

-- an entry within bounds comes back from its three numbers
pub unpacked_packed : (r : Entry) → Bounded r → unpacked (packed r) r.microseconds (origin r) ≡ r
unfolding unpacked
unpacked_packed r b =
    let n = r.note in
    let c = r.scale in
    let t = r.style in
    let v = r.volume in
    let hc = b.scale in
    let ht = b.style in
    let hv = b.volume in
    let e₁ : packed r / 1024 ≡ n = omega arith in
    let e₂ : packed r / 256 % 4 ≡ c = omega arith in
    let e₃ : packed r / 16 % 16 ≡ t = omega arith in
    let e₄ : packed r % 16 ≡ v = omega arith in
    let at = b.position in
    let e₅ : origin r / 256 ≡ r.header = omega arith in
    let e₆ : origin r % 256 ≡ r.position = omega arith in
    λ i. record { note = e₁ i; scale = e₂ i; style = e₃ i; volume = e₄ i; microseconds = r.microseconds; header = e₅ i; position = e₆ i }

-- so two such entries with the same numbers are the same
pub packed_once : (r q : Entry) → Bounded r → Bounded q → packed r ≡ packed q → r.microseconds ≡ q.microseconds → origin r ≡ origin q → r ≡ q
packed_once r q b c e m o = sym (unpacked_packed r b) ∙ (λ i. unpacked (e i) (m i) (o i)) ∙ unpacked_packed q c

-- the list in cells has so many an entry
pub length_numbers : (rs : List Entry) → length (numbers rs) ≡ entry_cells * length rs
length_numbers [] = refl
length_numbers (r ∷ rs) = let h = length_numbers rs in omega arith

pub numbers_append : (rs qs : List Entry) → numbers (rs ++ qs) ≡ numbers rs ++ numbers qs
numbers_append [] qs = refl
numbers_append (r ∷ rs) qs = ap (λ (l : List ℕ). in_cells r ++ l) (numbers_append rs qs)

-- entries within bounds come back from the list in cells, whatever follows it
pub entries_numbers : (rs : List Entry) (rest : List ℕ) → AllBounded rs → entries_of (length rs) (numbers rs ++ rest) ≡ rs
entries_numbers [] rest b = refl
entries_numbers (r ∷ rs) rest b = ap₂ (λ (x : Entry) (l : List Entry). x ∷ l) (unpacked_packed r b.0) (entries_numbers rs rest b.1)

-- so two such lists with the same numbers are the same
pub numbers_once : (rs qs : List Entry) → AllBounded rs → AllBounded qs → numbers rs ≡ numbers qs → rs ≡ qs
numbers_once [] [] b c e = refl
numbers_once [] (q ∷ qs) b c e = let z : ◌≡◌ {A = ℕ} 0 1 = cc in absurd (omega arith)
numbers_once (r ∷ rs) [] b c e = let z : ◌≡◌ {A = ℕ} 0 1 = cc in absurd (omega arith)
numbers_once (r ∷ rs) (q ∷ qs) b c e =
    let h : packed r ≡ packed q = cc in
    let m : r.microseconds ≡ q.microseconds = cc in
    let o : origin r ≡ origin q = cc in
    let t : numbers rs ≡ numbers qs = cc in
    ap₂ (λ (x : Entry) (l : List Entry). x ∷ l) (packed_once r q b.0 c.0 h m o) (numbers_once rs qs b.1 c.1 t)

-- ---- entry by entry

pub length_entries : (n : ℕ) (l : List ℕ) → length (entries_of n l) ≡ n
length_entries zero l = refl
length_entries (suc n) l = ap suc (length_entries n (drop entry_cells l))

-- one entry more
pub entries_more : (n : ℕ) (l : List ℕ) → entries_of (suc n) l ≡ entries_of n l ++ (entry_at l n ∷ [])
entries_more zero l = refl
entries_more (suc n) l =
    let behind : (i j : ℕ) → entry_cells + i ≡ j → get_or (drop entry_cells l) i 0 ≡ get_or l j 0 = λ i j h. get_or-drop entry_cells l i 0 ∙ ap (λ (k : ℕ). get_or l k 0) h in
    let first = behind (n * entry_cells) (suc n * entry_cells) (omega arith) in
    let second = behind (n * entry_cells + 1) (suc n * entry_cells + 1) (omega arith) in
    let third = behind (n * entry_cells + 2) (suc n * entry_cells + 2) (omega arith) in
    ap (λ (r : List Entry). entry_at l 0 ∷ r) (entries_more n (drop entry_cells l) ∙ ap (λ (r : Entry). entries_of n (drop entry_cells l) ++ (r ∷ [])) (λ i. unpacked (first i) (second i) (third i)))

-- rows of which the first n are filled
abbrev pub filled : List ℕ → List Entry → ℕ → List Entry
filled l rows n = entries_of n l ++ drop n rows

pub filled_length : (l : List ℕ) (rows : List Entry) (n : ℕ) → n ≤ length rows → length (filled l rows n) ≡ length rows
filled_length l rows n h = length-append (entries_of n l) (drop n rows) ∙ (rw (length_entries n l, length-drop n rows) (omega arith))

-- one row more is filled
pub filled_next : (l : List ℕ) (rows : List Entry) (n : ℕ) → n < length rows → set (filled l rows n) n (entry_at l n) ≡ filled l rows (suc n)
filled_next l rows n h =
    ap (λ (r : List Entry). set (entries_of n l ++ r) n (entry_at l n)) (drop-cons rows n (entry_at l n) h)
    ∙ set_at (entries_of n l) (get_or rows n (entry_at l n)) (drop (suc n) rows) (entry_at l n) n (length_entries n l)
    ∙ sym (append_snoc (entries_of n l) (entry_at l n) (drop (suc n) rows))
    ∙ ap (λ (r : List Entry). r ++ drop (suc n) rows) (sym (entries_more n l))
