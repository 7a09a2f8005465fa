-- How large the largest tone is: the octets of its title, and the entries of its table; and how short the shortest.
use Prim.Native.Nat.{ℕ, zero, suc, ◌+◌, ◌*◌, ◌≤◌}
use native.Mathlib.Omega.{arith}
use mathlib.Core.Bool.{Bool, true, false}
use mathlib.Core.List.{List, [], ◌∷◌, ◌++◌}
use lib.ListN.{length, length-append}
use Rattle.bits.proofs.Numbers.{length_bits}
use Rattle.tone.specs.Table.{kind, width}
use Rattle.tone.specs.Tone.{Pattern, Tone, Front, front_of, header, cells, learn, none_known, Titled, Instructions, Sequence, Formed}
use Rattle.tone.specs.Writing.{command_bits, entry_bits, table_bits, front_bits, song_bits, tone_length, WellFormed}
use Rattle.tone.proofs.Rows.{length_entry_bits, header_small, header_wide, table_bits_append}
use Rattle.tone.proofs.Recalls.{first_defines}

-- a title has at most 30 octets: fifteen characters of two
pub title_most : (song : ℕ) (unicode : Bool) (title : List ℕ) → Titled song unicode title → length title ≤ 30
title_most song true title t = omega (arith, t.whole, t.short)
title_most song false title t = omega (arith, t.whole, t.short)

-- ---- the fewest bits

-- an instruction's payload has at least two
width_least : (k : ℕ) → 1 ≤ k → k ≤ 5 → 2 ≤ width k
unfolding width
width_least zero h m = omega arith
width_least (suc zero) h m = omega arith
width_least (suc (suc zero)) h m = omega arith
width_least (suc (suc (suc zero))) h m = omega arith
width_least (suc (suc (suc (suc zero)))) h m = omega arith
width_least (suc (suc (suc (suc (suc zero))))) h m = omega arith
width_least (suc (suc (suc (suc (suc (suc k)))))) h m = omega arith

-- a body has five an instruction
body_least : (b : List ℕ) → Instructions b → 5 * length b ≤ length (table_bits b)
body_least [] h = omega arith
body_least (e ∷ b) h =
    let w = width_least (kind e) h.0.some h.0.in_table.known in
    omega (arith, body_least b h.1, length-append (entry_bits e) (table_bits b), length_entry_bits e)

-- a table has five an entry, and twelve more a header
table_least : (known : List Bool) (ps : List Pattern) → Sequence known ps → 12 * length ps + 5 * length (cells ps) ≤ length (table_bits (cells ps))
table_least known [] h = omega arith
table_least known (p ∷ ps) h =
    rw (
      length-append (entry_bits (header p)) (table_bits (p.body ++ cells ps)),
      header_wide (header p) (header_small p h.0).0,
      table_bits_append p.body (cells ps),
      length-append (table_bits p.body) (table_bits (cells ps)),
      length-append p.body (cells ps),
    )
    (omega (arith, body_least p.body h.0.each, table_least (learn known (header p)) ps h.2))

-- a front has 34, as that of a temporary song without UNICODE
front_least : (f : Front) → 34 ≤ length (front_bits f)
unfolding front_bits command_bits
front_least f = simp (length-append, length_bits) (omega arith)

-- a table has two entries at least: the first header, and its first instruction
cells_least : (ps : List Pattern) → 1 ≤ length ps → Sequence none_known ps → 2 ≤ length (cells ps)
cells_least [] h q = absurd (omega arith)
cells_least (p ∷ ps) h q = omega (arith, length-append p.body (cells ps), first_defines p q.0 q.1)

-- a song has 56: a front, a header, and an instruction of five
song_least : (t : Tone) → Formed t → 56 ≤ length (song_bits t)
unfolding song_bits
song_least t f =
    let ps = t.patterns in
    let l = length-append (front_bits (front_of t)) (table_bits (cells ps)) in
    omega (arith, l, front_least (front_of t), table_least none_known ps f.sequence, cells_least ps f.front.some f.sequence)

-- a tone has at least eight octets
pub octets_least : (t : Tone) → Formed t → 8 ≤ tone_length t
octets_least t f = omega (arith, song_least t f)

-- ---- the most entries

-- no more than 256 a pattern: its header and its body
cells_most : (known : List Bool) (ps : List Pattern) → Sequence known ps → length (cells ps) ≤ 256 * length ps
cells_most known [] h = omega arith
cells_most known (p ∷ ps) h = omega (arith, cells_most (learn known (header p)) ps h.2, h.0.long, length-append p.body (cells ps))

-- a tone's table has at most 6,482 entries: 26 headers, and instructions of five bits to the last octet
pub entries_most : (t : Tone) → WellFormed t → length (cells t.patterns) ≤ 6482
unfolding song_bits
entries_most t w =
    let s = w.formed.sequence in
    let l = length-append (front_bits (front_of t)) (table_bits (cells t.patterns)) in
    omega (arith, w.size, l, front_least (front_of t), table_least none_known t.patterns s, cells_most none_known t.patterns s)
