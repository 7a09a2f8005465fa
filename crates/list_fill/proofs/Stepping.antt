-- One instruction is filled in.
use Prim.Native.Nat.{ℕ, ◌+◌, ◌-◌, ◌*◌, ◌/◌, ◌%◌, ◌^◌, ◌≤◌, ◌<◌}
use native.Mathlib.Omega.{arith}
use native.Mathlib.Nat.{add-zero}
use native.Mathlib.Numerals.{add-one, add-two}
use mathlib.Core.Path.{◌≡◌, refl, sym, ap, ap₂, ◌∙◌}
use mathlib.Core.List.{List, [], ◌∷◌}
use lib.ListN.{length, set, length-set}
use lib.Seq.{sets}
use lib.Pow.{shr-shr}
use lib.Dec.{leb, lit≤}
use borrow.Author.Tests.{eq-eqb, ne_eqb, leb-true}
use mir.Val.{Fits}
use mir.Syntax.{w32}
use Rattle.bits.specs.declared.BitPlace.{BitPlace}
use Rattle.bits.proofs.Choice.{both}
use Rattle.bits.specs.Places.{place}
use Rattle.tone.specs.Table.{kind, payload, width, allowed, note_of, duration_of, specifier_of, Instruction}
use Rattle.tone.specs.Writing.{entry_bits}
use Rattle.tone.proofs.Rows.{length_entry_bits}
use Rattle.tone_elements.specs.Answers.{note_in}
use Rattle.list_rules.specs.declared.Settings.{Settings}
use Rattle.list_rules.specs.declared.Lasted.{Lasted}
use Rattle.list_fill.specs.declared.Walk.{Walk}
use Rattle.list_rules.specs.Duration.{beats, units, microseconds, left_over}
use Rattle.list_rules.specs.Sounding.{defaults, applied, at_start, units_of, fraction_after, sounded, packed, entry_cells}
use Rattle.list_rules.specs.Ranges.{InRange}
use Rattle.list_rules.specs.Playing.{step}
use Rattle.list_rules.specs.Tempo.{inverse_of, Timed, base_of}
use Rattle.list_fill.specs.Filling.{entry_seen, state_of, Ready, Begun, Headed, Advanced}
use Rattle.list_rules.proofs.Bounds.{range_start, range_applied}
use Rattle.list_rules.proofs.Durations.{units_short, left_below, beats_least, beats_most}
use Rattle.list_rules.proofs.Restarts.{applied_tempo, tempo_restarts, note_leaves, others_carry}
use Rattle.list_fill.proofs.Seeing.{seen_kind, seen_note, seen_entry, seen_small, width_some}

-- ---- an entry's cells

module _ (old : List ℕ) (at : ℕ) (h : at + entry_cells ≤ length old) where
  pub cells_first : at < length old
  cells_first = omega arith

  pub cells_second : (v : ℕ) → at + 1 < length (set old at v)
  cells_second v = rw (length-set old at v) (omega arith)

  pub cells_third : (v u : ℕ) → at + 2 < length (set (set old at v) (at + 1) u)
  cells_third v u = rw (length-set (set old at v) (at + 1) u, length-set old at v) (omega arith)

-- put one by one
pub cells_put : (old : List ℕ) (at v u o : ℕ) → set (set (set old at v) (at + 1) u) (at + 2) o ≡ sets old at (v ∷ u ∷ o ∷ [])
cells_put old at v u o = rw (add-one at, add-two at) refl

pub ruleset puttings = (cells_first, cells_second, cells_third, cells_put)

-- ---- the start

-- the beats of a tempo with one over them, where nothing is left over
pub fresh : {s : Settings} {b k : ℕ} → InRange s → b ≡ beats s.tempo → k ≡ inverse_of b → Timed 0 b k
fresh r e f = let l = beats_least e r.tempo in record { slowest = l; fastest = beats_most e r.tempo; below = omega arith; inverse = f }

pub start_range : {s : Settings} → s ≡ defaults → InRange s
start_range e = rw e range_start

pub start_tempo : {s : Settings} → s ≡ defaults → s.tempo ≤ 31
start_tempo e = (start_range e).tempo

pub start_beats : {s : Settings} {b : ℕ} → s ≡ defaults → b ≡ beats s.tempo → 25 ≤ b
start_beats e f = beats_least f (start_tempo e)

pub start_ready : {s : Settings} {c b k : ℕ} (p : BitPlace) → s ≡ defaults → c ≡ base_of s → b ≡ beats s.tempo → k ≡ inverse_of b
    → Ready (record { settings = s; fraction = 0; header = 0; position = 0; base = c; beats = b; inverse = k; at = p; cells = 0 })
start_ready p e f g h = let r = start_range e in record { range = r; headers = lit≤ tt; positions = lit≤ tt; based = f; beating = g; timed = fresh r g h }

pub start_state : {s : Settings} → s ≡ defaults → record { settings = s; fraction = 0; header = 0; position = 0 } ≡ at_start
start_state e = λ i. record { settings = e i; fraction = 0; header = 0; position = 0 }

pub ruleset starts = (start_range, start_tempo, start_beats, start_ready, start_state)

-- ---- a pass begins

module _ (w : Walk) (from : BitPlace) (value : ℕ) (r : Ready w) where
  -- with loop 15 nothing is left over
  pub begins_restarted : value ≡ 15 → Begun value from w (record { settings = w.settings; fraction = 0; header = w.header; position = 0; base = w.base; beats = w.beats; inverse = w.inverse; at = from; cells = w.cells })
  begins_restarted e = record {
    ready = record { range = r.range; headers = r.headers; positions = lit≤ tt; based = r.based; beating = r.beating; timed = fresh r.range r.beating r.timed.inverse };
    state = rw (eq-eqb value 15 e) refl;
    place = refl;
    cells = refl;
  }

  -- with any other the state is carried on
  pub begins_carried : (value ≡ 15 → ⊥) → Begun value from w (record { settings = w.settings; fraction = w.fraction; header = w.header; position = 0; base = w.base; beats = w.beats; inverse = w.inverse; at = from; cells = w.cells })
  begins_carried e = record {
    ready = record { range = r.range; headers = r.headers; positions = lit≤ tt; based = r.based; beating = r.beating; timed = r.timed };
    state = rw (ne_eqb value 15 e) refl;
    place = refl;
    cells = refl;
  }

-- the next header is due
pub begins_header : (w : Walk) → Ready w × (w.header < 255)
    → Headed w (record { settings = w.settings; fraction = w.fraction; header = w.header + 1; position = w.position; base = w.base; beats = w.beats; inverse = w.inverse; at = w.at; cells = w.cells })
begins_header w k = let r = k.0 in record {
  ready = record { range = r.range; headers = omega (arith, k.1); positions = r.positions; based = r.based; beating = r.beating; timed = r.timed };
  state = refl;
  place = refl;
  cells = refl;
}

pub ruleset beginnings = (begins_restarted, begins_carried, begins_header)

-- ---- one instruction

-- a note leaves the settings
applied_note : (s : Settings) (e : ℕ) → kind e ≡ 1 → applied s e ≡ s
unfolding applied
applied_note s e h = rw h

-- a tempo changes nothing else
applied_base : (s : Settings) (e : ℕ) → kind e ≡ 4 → base_of (applied s e) ≡ base_of s
unfolding applied
applied_base s e h = rw h

pub step_kind : (x : ℕ) → Instruction (entry_seen x) → x / 2 ^ 61 ≤ 5
step_kind x i = omega (arith, seen_kind x, i.in_table.known)

-- the payload of a note, as the code takes it
abbrev note_seen : ℕ → ℕ
note_seen x = x / 2 ^ 52 % 512

-- its parts, taken one by one
pitch_seen : (x : ℕ) → x / 2 ^ 57 % 16 ≡ note_of (note_seen x)
pitch_seen x = omega (arith, shr-shr x 52 5)

duration_seen : (x : ℕ) → x / 2 ^ 54 % 8 ≡ duration_of (note_seen x)
duration_seen x = omega (arith, shr-shr x 52 2)

specifier_seen : (x : ℕ) → x / 2 ^ 52 % 4 ≡ specifier_of (note_seen x)
specifier_seen x = omega arith

-- a note
module _ (x : ℕ) (h : x / 2 ^ 61 ≡ 1) where
  note : kind (entry_seen x) ≡ 1
  note = seen_kind x ∙ h

  one_note_lem : note_in (entry_seen x) ≡ 1
  one_note_lem = rw (eq-eqb (kind (entry_seen x)) 1 note)

  duration : Instruction (entry_seen x) → duration_of (note_seen x) ≤ 5
  unfolding allowed
  duration i =
      rw (← seen_note x h)
      (leb-true (duration_of (payload (entry_seen x))) 5 (both (leb (note_of (payload (entry_seen x))) 12) (leb (duration_of (payload (entry_seen x))) 5) (rw note at i.in_table.code)).1)

  pub step_duration : Instruction (entry_seen x) → x / 2 ^ 54 % 8 ≤ 5
  step_duration i = rw (duration_seen x) (duration i)

  twelve : length (entry_bits (entry_seen x)) ≡ 12
  unfolding width
  twelve = length_entry_bits (entry_seen x) ∙ ap (λ (k : ℕ). 3 + width k) note

  module _ (w : Walk) (old : List ℕ) (i : Instruction (entry_seen x) × (w.cells + entry_cells * note_in (entry_seen x) ≤ length old)) where
    pub step_room : w.cells + entry_cells ≤ length old
    step_room = omega (arith, i.1, one_note_lem)

    pub step_note : {u c : ℕ} {t : Lasted} {new : List ℕ} → Ready w × (w.at.0 < 2 ^ 63) × (w.position < 255) → u ≡ units (x / 2 ^ 54 % 8) (x / 2 ^ 52 % 4) → (t.microseconds ≡ microseconds w.fraction u w.beats) × (t.fraction ≡ left_over w.fraction u w.beats)
        → c ≡ w.cells + entry_cells → new ≡ sets old w.cells ((x / 2 ^ 57 % 16 * 1024 + w.base) ∷ t.microseconds ∷ (w.header * 256 + w.position) ∷ [])
        → Advanced w.cells (step (state_of w) (entry_seen x)) (w.at.0 + length (entry_bits (entry_seen x))) old new
        (record { settings = w.settings; fraction = t.fraction; header = w.header; position = w.position + 1; base = w.base; beats = w.beats; inverse = w.inverse; at = place (w.at.0 + 12); cells = c })
    unfolding step sounded
    step_note {u} {t = t} k f g next put =
        let r = k.0 in
        let p = payload (entry_seen x) in
        let same : u ≡ units_of p = f ∙ ap₂ units (duration_seen x) (specifier_seen x) ∙ ap units_of (sym (seen_note x h)) in
        let first : note_of (note_seen x) * 1024 + w.base ≡ packed (sounded (state_of w) p) = omega (arith, r.based, seen_note x h) in
        let second : t.microseconds ≡ (sounded (state_of w) p).microseconds = g.0 ∙ ap₂ (microseconds w.fraction) same r.beating in
        let third : t.fraction ≡ fraction_after (state_of w) (entry_seen x) = g.1 ∙ ap₂ (left_over w.fraction) same r.beating ∙ sym (note_leaves (state_of w) (entry_seen x) note) in
        let some : 0 < w.beats = omega (arith, r.timed.below) in
        record {
          state = λ i. record { settings = sym (applied_note w.settings (entry_seen x) note) i; fraction = third i; header = w.header; position = w.position + 1 };
          ready = record {
            range = r.range;
            headers = r.headers;
            positions = omega (arith, k.2);
            based = r.based;
            beating = r.beating;
            timed = record { slowest = r.timed.slowest; fastest = r.timed.fastest; below = rw g.1 (left_below w.fraction u w.beats some); inverse = r.timed.inverse };
          };
          place = ap (λ (n : ℕ). w.at.0 + n) (sym twelve);
          cells = rw (eq-eqb (kind (entry_seen x)) 1 note) next;
          list = put ∙ (rw (pitch_seen x, eq-eqb (kind (entry_seen x)) 1 note, first, second) refl);
        }

-- any other
abbrev rest_seen : ℕ → ℕ → ℕ
rest_seen x n = x * 2 ^ 3 % 2 ^ 64 / 2 ^ (64 - n)

pub step_shift : (x : ℕ) {n : ℕ} → Instruction (entry_seen x) → (n ≡ width (x / 2 ^ 61)) × (n ≤ 14) → 64 - n < 64
step_shift x i b = omega (arith, b.0, width_some (x / 2 ^ 61) (step_kind x i))

pub step_cast : (x : ℕ) {n : ℕ} → n ≤ 14 → Fits w32 (rest_seen x n)
step_cast x b = record { fits = omega (arith, seen_small x b) }

pub step_sum : (x : ℕ) {n : ℕ} → n ≤ 14 → Instruction (entry_seen x) → Fits w32 (x / 2 ^ 61 * 65536 + rest_seen x n)
step_sum x b i = record { fits = omega (arith, seen_small x b, step_kind x i) }

module _ {w : Walk} (x : ℕ) {n : ℕ} {s : Settings} (after : s ≡ applied w.settings (x / 2 ^ 61 * 65536 + rest_seen x n)) (b : (n ≡ width (x / 2 ^ 61)) × (n ≤ 14)) (i : Instruction (entry_seen x)) (k : Ready w × (w.at.0 < 2 ^ 63) × (w.position < 255)) where
  r : Ready w
  r = k.0

  same : s ≡ applied w.settings (entry_seen x)
  same = after ∙ ap (applied w.settings) (seen_entry x b)

  pub step_range : InRange s
  step_range = rw same (range_applied w.settings (entry_seen x) r.range i)

  pub step_slow : s.tempo ≤ 31
  step_slow = step_range.tempo

  pub step_beats : {a : ℕ} → a ≡ beats s.tempo → 25 ≤ a
  step_beats e = beats_least e step_slow

  module _ (h : x / 2 ^ 61 ≡ 1 → ⊥) (old : List ℕ) where
    other : kind (entry_seen x) ≡ 1 → ⊥
    other z = h (sym (seen_kind x) ∙ z)

    moved : {f c a k : ℕ} → f ≡ fraction_after (state_of w) (entry_seen x) → c ≡ base_of s → a ≡ beats s.tempo → Timed f a k
        → Advanced w.cells (step (state_of w) (entry_seen x)) (w.at.0 + length (entry_bits (entry_seen x))) old old (record { settings = s; fraction = f; header = w.header; position = w.position + 1; base = c; beats = a; inverse = k; at = place (w.at.0 + 3 + n); cells = w.cells })
    unfolding step
    moved e f g p =
        record {
          state = λ j. record { settings = same j; fraction = e j; header = w.header; position = w.position + 1 };
          ready = record { range = step_range; headers = r.headers; positions = omega (arith, k.2); based = f; beating = g; timed = p };
          place = omega (arith, length_entry_bits (entry_seen x), ap width (seen_kind x), b.0);
          cells = rw (ne_eqb (kind (entry_seen x)) 1 other) (sym (add-zero w.cells));
          list = rw (ne_eqb (kind (entry_seen x)) 1 other) refl;
        }

    pub step_tempo : {a k : ℕ} → x / 2 ^ 61 ≡ 4 → a ≡ beats s.tempo → k ≡ inverse_of a
        → Advanced w.cells (step (state_of w) (entry_seen x)) (w.at.0 + length (entry_bits (entry_seen x))) old old (record { settings = s; fraction = 0; header = w.header; position = w.position + 1; base = w.base; beats = a; inverse = k; at = place (w.at.0 + 3 + n); cells = w.cells })
    step_tempo z e g =
        let tempo : kind (entry_seen x) ≡ 4 = seen_kind x ∙ z in
        moved (sym (tempo_restarts (state_of w) (entry_seen x) tempo)) (r.based ∙ sym (ap base_of same ∙ applied_base w.settings (entry_seen x) tempo)) e (fresh step_range e g)

    pub step_other : {c : ℕ} → (x / 2 ^ 61 ≡ 4 → ⊥) → c ≡ base_of s
        → Advanced w.cells (step (state_of w) (entry_seen x)) (w.at.0 + length (entry_bits (entry_seen x))) old old (record { settings = s; fraction = w.fraction; header = w.header; position = w.position + 1; base = c; beats = w.beats; inverse = w.inverse; at = place (w.at.0 + 3 + n); cells = w.cells })
    step_other z f =
        let steady : kind (entry_seen x) ≡ 4 → ⊥ = λ y. z (sym (seen_kind x) ∙ y) in
        moved (sym (others_carry (state_of w) (entry_seen x) other steady)) f (r.beating ∙ ap beats (sym (ap (λ (t : Settings). t.tempo) same ∙ applied_tempo w.settings (entry_seen x) steady))) r.timed

pub ruleset steps = (units_short, step_kind, step_duration, step_room, step_note, step_shift, step_cast, step_sum, step_range, step_slow, step_beats, step_tempo, step_other)
