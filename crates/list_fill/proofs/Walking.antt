-- The list is filled, one pass at a time.
use Prim.Native.Nat.{ℕ, suc, ◌+◌, ◌-◌, ◌*◌, ◌%◌, ◌^◌, ◌≤◌, ◌<◌}
use native.Mathlib.Omega.{arith}
use native.Mathlib.Nat.{add-zero, mul-suc}
use mathlib.Core.Path.{◌≡◌, refl, sym, ap, ap₂, subst, ◌∙◌}
use mathlib.Core.List.{List, [], ◌∷◌, ◌++◌, append-nil}
use lib.ListN.{length, set, drop, length-append}
use lib.Seq.{sets, length-sets}
use lib.Dec.{eqb}
use Rattle.bits.proofs.Choice.{pick_elim}
use Rattle.bits.specs.Bits.{bits_of}
use Rattle.bits.specs.Window.{Sight}
use Rattle.bits.specs.declared.BitPlace.{BitPlace}
use Rattle.bits.proofs.Octets.{length_bits_of}
use Rattle.tone.specs.Table.{kind, width, Instruction}
use Rattle.tone.specs.Reading.{got, bad, onward, instruction_due, body_due}
use Rattle.tone.specs.Writing.{entry_bits}
use Rattle.tone.proofs.Exact.{Accepted}
use Rattle.tone.proofs.Rows.{instruction_exact, body_exact}
use Rattle.tone_elements.specs.Answers.{note_in, notes}
use Rattle.list_rules.specs.declared.Entry.{Entry}
use Rattle.list_fill.specs.declared.Walk.{Walk}
use Rattle.list_rules.specs.Sounding.{State, entry_cells, numbers}
use Rattle.list_rules.specs.Playing.{Played, ahead, step, pass, one_pass, passes}
use Rattle.list_count.specs.Bodies.{passes_of}
use Rattle.list_fill.specs.Filling.{entry_seen, state_of, Ready, Begun, Advanced}
use Rattle.tone_elements.specs.Standing.{body_in, behind_in, BodyAt}
use Rattle.list_rules.proofs.Packing.{length_numbers, numbers_append}
use Rattle.list_rules.proofs.Joining.{ahead_twice, pass_append}
use Rattle.list_rules.proofs.Counts.{pass_count, passes_count}
use Rattle.list_rules.proofs.Headers.{pass_position}
use Rattle.tone_elements.proofs.Seeing.{instruction_width}
use Rattle.tone_elements.proofs.Steps.{onward_got, onward_made}
use Rattle.tone_elements.proofs.Walks.{InSight, sight_begins, sight_near, sight_here, sight_next, body_more, notes_more}
use Rattle.list_fill.proofs.Seeing.{seen_is}

-- ---- one thing after another

sets_append : (l : List ℕ) (i : ℕ) (a b : List ℕ) → sets (sets l i a) (i + length a) b ≡ sets l i (a ++ b)
sets_append l i [] b = ap (λ (n : ℕ). sets l n b) (add-zero i)
sets_append l i (v ∷ a) b =
    let e : i + suc (length a) ≡ suc i + length a = omega arith in
    ap (λ (n : ℕ). sets (sets (set l i v) (suc i) a) n b) e ∙ sets_append (set l i v) (suc i) a b

nothing_yet : (w : Walk) (old : List ℕ) → Ready w → Advanced w.cells (record { entries = []; after = state_of w }) w.at.0 old old w
nothing_yet w old h = record { state = refl; ready = h; place = refl; cells = sym (add-zero w.cells); list = refl }

-- what is played next is written next
pub and_then : {i : ℕ} {d f : Played} {q q' : ℕ} {old mid new : List ℕ} {w w' : Walk} → Advanced i d q old mid w → Advanced w.cells f q' mid new w' → Advanced i (ahead d.entries f) q' old new w'
and_then {i} {d} {f} {old = old} {w = w} a b =
    let k = length-append d.entries f.entries in
    let n : i + length (numbers d.entries) ≡ w.cells = ap (λ (x : ℕ). i + x) (length_numbers d.entries) ∙ sym a.cells in
    record {
      state = b.state;
      ready = b.ready;
      place = b.place;
      cells = omega (arith, a.cells, b.cells);
      list = b.list ∙ ap₂ (λ (l : List ℕ) (x : ℕ). sets l x (numbers f.entries)) a.list (sym n)
          ∙ sets_append old i (numbers d.entries) (numbers f.entries) ∙ ap (sets old i) (sym (numbers_append d.entries f.entries));
    }

-- the list keeps its length
pub advanced_long : {i : ℕ} {d : Played} {q : ℕ} {old new : List ℕ} {w : Walk} → Advanced i d q old new w → length new ≡ length old
advanced_long {i} {d} {old = old} a = ap length a.list ∙ length-sets old i (numbers d.entries)

-- with nothing more to play
all_played : {i : ℕ} {d f : Played} {q q' : ℕ} {old new : List ℕ} {w : Walk} → Advanced i d q old new w → f ≡ ahead d.entries (record { entries = []; after = state_of w }) → q ≡ q' → Advanced i f q' old new w
all_played {i} {d} {old = old} a e z =
    let n = append-nil d.entries in
    rw e (record {
      state = refl;
      ready = a.ready;
      place = a.place ∙ z;
      cells = a.cells ∙ ap (λ (rs : List Entry). i + entry_cells * length rs) (sym n);
      list = a.list ∙ ap (λ (rs : List Entry). sets old i (numbers rs)) (sym n);
    })

here_now : {i : ℕ} {d : Played} {q : ℕ} {old new : List ℕ} {w : Walk} → Advanced i d q old new w → Advanced i d w.at.0 old new w
here_now a = record { state = a.state; ready = a.ready; place = refl; cells = a.cells; list = a.list }

-- ---- the instructions of a body

-- the first of some instructions that stand at a place
record Head (m : List ℕ) (p left : ℕ) (b : List ℕ) (q : ℕ) : Type 0 where
  entry : ℕ
  others : List ℕ
  behind : ℕ
  body : b ≡ entry ∷ others
  first : instruction_due (bits_of m) p ≡ got entry behind
  more : body_due (left - 1) (bits_of m) behind ≡ got others q

head_of : (m : List ℕ) (p left : ℕ) {b : List ℕ} {q : ℕ} → 0 < left → body_due left (bits_of m) p ≡ got b q → Head m p left b q
unfolding body_due
head_of m p left {b} {q} h e =
    let one_less : left ≡ suc (left - 1) = omega arith in
    let l = bits_of m in
    let i = onward_got (instruction_due l p) (λ c p'. onward (body_due (left - 1) l p') (λ t r. got (c ∷ t) r) bad) (subst (λ (x : ℕ). body_due x l p ≡ got b q) one_less e) in
    let j = onward_made (body_due (left - 1) l i.1) (λ t. i.0 ∷ t) i.3 in
    record { entry = i.0; others = j.0; behind = i.1; body = j.2; first = i.2; more = j.1 }

-- the first k of some instructions that stand at a place
record Split (m : List ℕ) (p k left : ℕ) (b : List ℕ) (q : ℕ) : Type 0 where
  front : List ℕ
  others : List ℕ
  behind : ℕ
  body : b ≡ front ++ others
  first : body_due k (bits_of m) p ≡ got front behind
  more : body_due (left - k) (bits_of m) behind ≡ got others q

split_of : (m : List ℕ) (k p left : ℕ) {b : List ℕ} {q : ℕ} → k ≤ left → body_due left (bits_of m) p ≡ got b q → Split m p k left b q
split_of m k p left {b} {q} h e =
    let both : left ≡ k + (left - k) = omega arith in
    let l = bits_of m in
    let i = onward_got (body_due k l p) (λ a r. onward (body_due (left - k) l r) (λ t s. got (a ++ t) s) bad) (sym (ap (λ (x : ℕ). body_due x l p) both ∙ body_more k (left - k) l p) ∙ e) in
    let j = onward_made (body_due (left - k) l i.1) (λ t. i.0 ++ t) i.3 in
    record { front = i.0; others = j.0; behind = i.1; body = j.2; first = i.2; more = j.1 }

-- one of n more is done
pub one_more_done : (n k : ℕ) → n - k - 1 ≡ n - (k + 1)
one_more_done n k = omega arith

-- ---- one pass

-- with `left` instructions to come at the walk's place, of the body b that began behind the first i cells from the state s
pub record PassWalk (m : List ℕ) (s : State) (b : List ℕ) (i q : ℕ) (old new : List ℕ) (w : Walk) (left : ℕ) : Type 0 where
  pub done : Played
  pub others : List ℕ
  pub stands : BodyAt m w.at.0 left others q
  pub advanced : Advanced i done w.at.0 old new w
  pub goes : pass s b ≡ ahead done.entries (pass (state_of w) others)
  pub room : i + entry_cells * notes b ≤ length old
  -- the last instruction's position is at most 254
  pub few : w.position + left ≤ 255

pub pass_begins : {m : List ℕ} {b : List ℕ} {q n : ℕ} {old : List ℕ} (w : Walk) → Ready w × (w.position + n ≤ 255) → BodyAt m w.at.0 n b q → w.cells + entry_cells * notes b ≤ length old
    → PassWalk m (state_of w) b w.cells q old old w n
pass_begins {b = b} {old = old} w r h k = record { done = record { entries = []; after = state_of w }; others = b; stands = h; advanced = nothing_yet w old r.0; goes = refl; room = k; few = r.1 }

module _ {m : List ℕ} {s : State} {b : List ℕ} {i q : ℕ} {old new : List ℕ} {w : Walk} {left : ℕ} (v : PassWalk m s b i q old new w left) where
  pub pass_long : length new ≡ length old
  pass_long = advanced_long v.advanced

  -- there is room for what is left
  left_room : w.cells + entry_cells * notes v.others ≤ length new
  left_room =
      let n : notes b ≡ length v.done.entries + notes v.others =
      sym (pass_count s b) ∙ ap (λ (d : Played). length d.entries) v.goes ∙ length-append v.done.entries (pass (state_of w) v.others).entries
      ∙ ap (λ (x : ℕ). length v.done.entries + x) (pass_count (state_of w) v.others) in
      omega (arith, v.advanced.cells, v.room, pass_long)

  -- what is played next, and what is left then
  go_on : {d : Played} {p n : ℕ} {rest : List ℕ} {new' : List ℕ} {w' : Walk} → Advanced w.cells d p new new' w' → pass (state_of w) v.others ≡ ahead d.entries (pass d.after rest)
      → body_due n (bits_of m) p ≡ got rest q → p ≤ length (bits_of m) → n ≤ 255 → w'.position + n ≤ 255 → PassWalk m s b i q old new' w' n
  go_on {d} {rest = rest} a e more inside short few = record {
    done = ahead v.done.entries d;
    others = rest;
    stands = record {
      within = record { inside = rw (a.place, ← length_bits_of m) inside; counted = v.stands.within.counted };
      short = short;
      reads = rw a.place more;
    };
    advanced = here_now (and_then v.advanced a);
    goes = v.goes ∙ ap (ahead v.done.entries) e ∙ ahead_twice v.done.entries d.entries (pass d.after rest)
        ∙ ap (λ (r : State). ahead (v.done.entries ++ d.entries) (pass r rest)) (sym a.state);
    room = v.room;
    few = few;
  }

  -- k instructions at once
  module _ {k : ℕ} (h : (0 < k) × (k ≤ 4) × (k ≤ left)) where
    split : Split m w.at.0 k left v.others q
    split = split_of m k w.at.0 left h.2 v.stands.reads

    front : body_in m w.at.0 k ≡ split.front
    front = rw split.first refl

    behind : behind_in m w.at.0 k ≡ split.behind
    behind = rw split.first refl

    pub pass_few : BodyAt m w.at.0 k (body_in m w.at.0 k) (behind_in m w.at.0 k)
    pass_few = record { within = v.stands.within; short = omega (arith, h.1); reads = rw split.first refl }

    pub pass_fits : w.cells + entry_cells * notes (body_in m w.at.0 k) ≤ length new
    pass_fits = omega (arith, left_room, ap notes split.body ∙ notes_more split.front split.others, ap notes front)

    pub pass_on : {new' : List ℕ} {w' : Walk} → Advanced w.cells (pass (state_of w) (body_in m w.at.0 k)) (behind_in m w.at.0 k) new new' w'
        → PassWalk m s b i q old new' w' (left - k)
    pass_on a =
        let read = (body_exact k).sound (bits_of m) w.at.0 (rw (length_bits_of m) v.stands.within.inside) split.first in
        go_on {rest = split.others} a (ap (pass (state_of w)) split.body ∙ pass_append (state_of w) split.front split.others ∙ ap (λ (x : List ℕ). ahead (pass (state_of w) x).entries (pass (pass (state_of w) x).after split.others)) (sym front))
        (rw behind split.more) (rw behind read.inside) (omega (arith, v.stands.short))
        (omega (arith, v.few, ap (λ (r : State). r.position) a.state ∙ pass_position (state_of w) (body_in m w.at.0 k), ap length front, read.good.size))

pub pass_done : {m : List ℕ} {s : State} {b : List ℕ} {i q : ℕ} {old new : List ℕ} {w : Walk} {left : ℕ} → PassWalk m s b i q old new w left → left ≤ 0 → Advanced i (pass s b) q old new w
unfolding body_due
pass_done {m} {s} {b} {q = q} {w = w} {left} v h =
    let z : left ≡ 0 = omega arith in
    let e : got [] w.at.0 ≡ got v.others q = subst (λ (x : ℕ). body_due x (bits_of m) w.at.0 ≡ got v.others q) z v.stands.reads in
    let e₁ : v.others ≡ [] = cc in
    let e₂ : w.at.0 ≡ q = cc in
    all_played v.advanced (v.goes ∙ ap (λ (x : List ℕ). ahead v.done.entries (pass (state_of w) x)) e₁) e₂

-- there are positions for the next few
pub pass_positions : {m : List ℕ} {s : State} {b : List ℕ} {i q : ℕ} {old new : List ℕ} {w : Walk} {left k : ℕ} → PassWalk m s b i q old new w left → k ≤ left → w.position + k ≤ 255
pass_positions v h = omega (arith, v.few)

pub ruleset passings = (pass_begins, pass_long, pass_few, pass_fits, pass_positions, pass_on, pass_done)

-- ---- some instructions in one sight

-- the same within one sight, that was taken at a place
pub record FewWalk (m : List ℕ) (s : State) (b : List ℕ) (at i q : ℕ) (old new : List ℕ) (w : Walk) (left : ℕ) : Type 0 where
  pub walked : PassWalk m s b i q old new w left
  pub seen : InSight at w.at.0 left

pub few_begins : {m : List ℕ} {b : List ℕ} {q n : ℕ} {old : List ℕ} (w : Walk) → Ready w × (n ≤ 4) × (w.position + n ≤ 255) → BodyAt m w.at.0 n b q → w.cells + entry_cells * notes b ≤ length old
    → FewWalk m (state_of w) b w.at.0 w.cells q old old w n
few_begins {n = n} w r h k = record { walked = pass_begins w (r.0, r.2) h k; seen = sight_begins w.at.0 n r.1 }

module _ {m : List ℕ} {s : State} {b : List ℕ} {at i q : ℕ} {old new : List ℕ} {w : Walk} {left : ℕ} (f : FewWalk m s b at i q old new w left) where
  pub few_ready : Ready w
  few_ready = f.walked.advanced.ready

  pub few_long : length new ≡ length old
  few_long = pass_long f.walked

  module _ (h : 0 < left) where
    pub few_back : at ≤ w.at.0
    few_back = f.seen.behind

    pub few_near : w.at.0 - at ≤ 36
    few_near = sight_near f.seen h

    -- there is a position for the next instruction
    pub few_position : w.position < 255
    few_position = omega (arith, f.walked.few)

    -- the place can be counted
    pub few_place : w.at.0 < 2 ^ 63
    few_place = let r = f.walked.stands.within in omega (arith, r.inside, r.counted)

    head : Head m w.at.0 left f.walked.others q
    head = head_of m w.at.0 left h f.walked.stands.reads

    taken : Accepted Instruction (λ _ e. entry_bits e) (bits_of m) w.at.0 head.entry head.behind
    taken = instruction_exact.sound (bits_of m) w.at.0 (rw (length_bits_of m) f.walked.stands.within.inside) head.first

    short : width (kind head.entry) ≤ 9
    short = instruction_width (kind head.entry) taken.good.some

    module _ {x : ℕ} (sight : Sight 57 (drop at (bits_of m)) x) where
      -- the sight from the walk's place on
      abbrev y : ℕ
      y = x * 2 ^ (w.at.0 - at) % 2 ^ 64

      same : entry_seen y ≡ head.entry
      same = seen_is (drop head.behind (bits_of m)) head.entry taken.good.in_table taken.here (omega (arith, short, few_near)) (sight_here f.seen h m f.walked.stands.within.inside sight)

      pub few_instruction : Instruction (entry_seen y)
      few_instruction = rw same taken.good

      pub few_room : w.cells + entry_cells * note_in (entry_seen y) ≤ length new
      few_room = omega (arith, left_room f.walked, ap notes head.body, ap note_in same)

      pub few_on : {new' : List ℕ} {w' : Walk} → Advanced w.cells (step (state_of w) (entry_seen y)) (w.at.0 + length (entry_bits (entry_seen y))) new new' w'
          → FewWalk m s b at i q old new' w' (left - 1)
      unfolding step
      few_on {new'} {w'} a =
          let z : w.at.0 + length (entry_bits (entry_seen y)) ≡ head.behind = ap (λ (c : ℕ). w.at.0 + length (entry_bits c)) same ∙ sym taken.end in
          let d : Advanced w.cells (step (state_of w) head.entry) head.behind new new' w' =
          subst (λ (c : ℕ). Advanced w.cells (step (state_of w) c) head.behind new new' w') same (subst (λ (p : ℕ). Advanced w.cells (step (state_of w) (entry_seen y)) p new new' w') z a) in
          record {
            walked = go_on f.walked d (ap (pass (state_of w)) head.body) head.more taken.inside (omega (arith, f.walked.stands.short)) (omega (arith, f.walked.few, ap (λ (r : State). r.position) d.state));
            seen = rw d.place (sight_next f.seen h m f.walked.stands.within.inside head.first);
          }

  pub few_done : left ≤ 0 → Advanced i (pass s b) q old new w
  few_done h = pass_done f.walked h

-- the same, where those that are done are counted
module _ {m : List ℕ} {s : State} {b : List ℕ} {at i q : ℕ} {old new : List ℕ} {w : Walk} {n k : ℕ} (f : FewWalk m s b at i q old new w (n - k)) where
  pub few_counted : k < n → {x : ℕ} → Sight 57 (drop at (bits_of m)) x → {new' : List ℕ} {w' : Walk}
      → Advanced w.cells (step (state_of w) (entry_seen (x * 2 ^ (w.at.0 - at) % 2 ^ 64))) (w.at.0 + length (entry_bits (entry_seen (x * 2 ^ (w.at.0 - at) % 2 ^ 64)))) new new' w'
      → FewWalk m s b at i q old new' w' (n - (k + 1))
  few_counted h sight {new'} {w'} a = subst (λ (l : ℕ). FewWalk m s b at i q old new' w' l) (one_more_done n k) (few_on f (omega arith) sight a)

pub ruleset seeings = (few_begins, few_ready, few_long, few_back, few_near, few_position, few_place, few_instruction, few_room, few_on, few_done)

-- ---- so many passes

-- with `left` of the passes of a loop value to come, of the n instructions at a place, that began behind the first i cells from the
-- state s; behind a pass the walk is behind the body
pub record TimesWalk (m : List ℕ) (from : BitPlace) (n value : ℕ) (s : State) (i : ℕ) (old new : List ℕ) (w : Walk) (left : ℕ) : Type 0 where
  pub done : Played
  pub advanced : Advanced i done w.at.0 old new w
  pub goes : passes value (passes_of value) s (body_in m from.0 n) ≡ ahead done.entries (passes value left (state_of w) (body_in m from.0 n))
  pub behind : left < passes_of value → w.at.0 ≡ behind_in m from.0 n
  pub room : i + entry_cells * (notes (body_in m from.0 n) * passes_of value) ≤ length old

passes_some : (value : ℕ) → 1 ≤ passes_of value
unfolding passes_of
passes_some value = pick_elim (λ (n : ℕ). 1 ≤ n) (eqb value 15) (λ _. omega arith) (λ _. omega arith)

one_pass_more : (value times : ℕ) (s : State) (b : List ℕ) → 1 ≤ times → passes value times s b ≡ ahead (one_pass value s b).entries (passes value (times - 1) (one_pass value s b).after b)
one_pass_more value times s b h = let e : times ≡ suc (times - 1) = omega arith in ap (λ (n : ℕ). passes value n s b) e

one_time_more : (k times : ℕ) → 1 ≤ times → k * times ≡ k + k * (times - 1)
one_time_more k times h = let e : times ≡ suc (times - 1) = omega arith in ap (λ (n : ℕ). k * n) e ∙ mul-suc k (times - 1) ∙ omega arith

-- before the first pass
pub times_begin : (m : List ℕ) (from : BitPlace) (n : ℕ) (w : Walk) {value left : ℕ} {old : List ℕ} → Ready w → w.cells + entry_cells * (notes (body_in m from.0 n) * passes_of value) ≤ length old → left ≡ passes_of value
    → TimesWalk m from n value (state_of w) w.cells old old w left
times_begin m from n w {value} {left} {old} r h e = record {
  done = record { entries = []; after = state_of w };
  advanced = nothing_yet w old r;
  goes = ap (λ (k : ℕ). passes value k (state_of w) (body_in m from.0 n)) (sym e);
  behind = λ l. absurd (omega (arith, e));
  room = h;
}

-- a pass from where it begins is a pass of the rule
pass_of : (m : List ℕ) (n : ℕ) {value : ℕ} {from : BitPlace} {new new' : List ℕ} {w w₁ w' : Walk} → Begun value from w w₁
    → Advanced w₁.cells (pass (state_of w₁) (body_in m w₁.at.0 n)) (behind_in m w₁.at.0 n) new new' w'
    → Advanced w.cells (one_pass value (state_of w) (body_in m from.0 n)) (behind_in m from.0 n) new new' w'
pass_of m n g a = rw (g.cells, g.state, g.place) at a

module _ {m : List ℕ} {from : BitPlace} {n value : ℕ} {s : State} {i : ℕ} {old new : List ℕ} {w : Walk} {left : ℕ} (v : TimesWalk m from n value s i old new w left) where
  abbrev b : List ℕ
  b = body_in m from.0 n

  pub times_ready : Ready w
  times_ready = v.advanced.ready

  pub times_long : length new ≡ length old
  times_long = advanced_long v.advanced

  module _ (h : 0 < left) where
    room_left : w.cells + entry_cells * notes b ≤ length new
    room_left =
        let k : notes b * passes_of value ≡ length v.done.entries + notes b * left =
        sym (passes_count value (passes_of value) s b) ∙ ap (λ (d : Played). length d.entries) v.goes ∙ length-append v.done.entries (passes value left (state_of w) b).entries
        ∙ ap (λ (x : ℕ). length v.done.entries + x) (passes_count value left (state_of w) b) in
        omega (arith, one_time_more (notes b) left h, v.advanced.cells, v.room, times_long)

    module _ {w₁ : Walk} (g : Begun value from w w₁) where
      pub times_room : w₁.cells + entry_cells * notes (body_in m w₁.at.0 n) ≤ length new
      times_room = rw (g.cells, g.place) room_left

      pub times_on : {new' : List ℕ} {w' : Walk} → Advanced w₁.cells (pass (state_of w₁) (body_in m w₁.at.0 n)) (behind_in m w₁.at.0 n) new new' w'
          → TimesWalk m from n value s i old new' w' (left - 1)
      times_on a' =
          let a = pass_of m n g a' in
          let d = one_pass value (state_of w) b in
          record {
            done = ahead v.done.entries d;
            advanced = here_now (and_then v.advanced a);
            goes = v.goes ∙ ap (ahead v.done.entries) (one_pass_more value left (state_of w) b h)
                ∙ ahead_twice v.done.entries d.entries (passes value (left - 1) d.after b)
                ∙ ap (λ (r : State). ahead (v.done.entries ++ d.entries) (passes value (left - 1) r b)) (sym a.state);
            behind = λ l. a.place;
            room = v.room;
          }

  -- there is one pass at least, so the walk is behind the body
  pub times_done : left ≤ 0 → Advanced i (passes value (passes_of value) s b) (behind_in m from.0 n) old new w
  times_done l =
      let some = passes_some value in
      let z : left ≡ 0 = omega arith in
      all_played v.advanced (v.goes ∙ ap (λ (k : ℕ). ahead v.done.entries (passes value k (state_of w) b)) z) (v.behind (omega arith))

-- the body stands where the pass begins
pub times_body : {m : List ℕ} {value n : ℕ} {from : BitPlace} {w w₁ : Walk} → BodyAt m from.0 n (body_in m from.0 n) (behind_in m from.0 n) → Begun value from w w₁
    → BodyAt m w₁.at.0 n (body_in m w₁.at.0 n) (behind_in m w₁.at.0 n)
times_body h g = rw g.place h

-- with positions for all its instructions
pub times_positions : {m : List ℕ} {value n q : ℕ} {b : List ℕ} {from : BitPlace} {w w₁ : Walk} → BodyAt m from.0 n b q → Begun value from w w₁ → w₁.position + n ≤ 255
times_positions h g = omega (arith, h.short, ap (λ (r : State). r.position) g.state)

-- the same, where those that are done are counted
module _ {m : List ℕ} {from : BitPlace} {n value : ℕ} {s : State} {i : ℕ} {old new : List ℕ} {w : Walk} {times k : ℕ} (v : TimesWalk m from n value s i old new w (times - k)) where
  pub times_counted : k < times → {w₁ : Walk} → Begun value from w w₁ → {new' : List ℕ} {w' : Walk}
      → Advanced w₁.cells (pass (state_of w₁) (body_in m w₁.at.0 n)) (behind_in m w₁.at.0 n) new new' w' → TimesWalk m from n value s i old new' w' (times - (k + 1))
  times_counted h g {new'} {w'} a = subst (λ (l : ℕ). TimesWalk m from n value s i old new' w' l) (one_more_done times k) (times_on v (omega arith) g a)

pub ruleset timings = (times_begin, times_ready, times_long, times_body, times_positions, times_room, times_on, times_done)
