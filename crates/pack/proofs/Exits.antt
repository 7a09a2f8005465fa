-- What each return of `judge`, `read`, `find` and `message` shows.
use Prim.Native.Nat.{ℕ, ◌+◌, ◌-◌, ◌*◌, ◌≤◌, ◌<◌}
use native.Mathlib.Omega.{arith}
use native.Mathlib.Nat.{add_comm}
use mathlib.Core.Path.{◌≡◌, refl, sym, ap, ap₂, ◌∙◌}
use mathlib.Core.Bool.{Bool, true, false, not}
use mathlib.Core.List.{List}
use lib.ListN.{length, get_or, take, drop}
use lib.Dec.{ltb, eqb}
use denote.Ref.{Bor}
use mir.Val.{Fits}
use mir.Syntax.{w32, w64}
use borrow.Author.Tests.{le-leb, lt-leb, eq-eqb, ne_eqb, lt-ltb}
use Rattle.std.specs.Prelude.{Result, Ok, Err, ⊤}
use Rattle.bits.specs.Outcome.{accepted, refused, demand}
use Rattle.bits.specs.Refusals.{number_of, refusal}
use Rattle.bits.specs.declared.refusal.Refusal.{Refusal}
use Rattle.bits.specs.Places.{octet_count}
use Rattle.tone.specs.Tone.{Tone}
use Rattle.inside.specs.Inside.{number, sum, cut}
use Rattle.inside.proofs.Answered.{refusal_there, accepted_there, refusal_passed}
use Rattle.pack.specs.declared.Found.{Found}
use Rattle.pack.specs.declared.Sound.{Sound}
use Rattle.pack.specs.Pack.{most_pack, row_at, rows_at, lengths_in, first_row, count, rows_in, continues, read_in_turn, read_pack, no_row, nth_row}
use Rattle.pack.specs.Answers.{turn_of, rows_judged, judged_of}
use Rattle.pack.specs.Promises.{ReadPromise, Finding, found_at, find_answer, FindPromise, MessagePromise}
use Rattle.bits.proofs.Refusals.{grounded}
use Rattle.pack.proofs.Turning.{continues_sum}
use Rattle.pack.proofs.Rules.{met, read_count}
use Rattle.pack.proofs.Nth.{pack_first, no_message, nth_rows_at, row_inside, row_short}
use Rattle.pack.proofs.Numbered.{pack_numbered, row_numbered, reads, finds}

-- ---- judge_rows

module _ (p : List ℕ) (rows n : ℕ) {k : Bool} (c : k ≡ continues 0 (rows_at n p rows) rows) where
  pub rows_apart : not k ≡ true → Err (refusal 27 0) ≡ turn_of (rows_judged p rows n)
  rows_apart h = rw (sym c ∙ apart k h) refl
    where
      apart : (b : Bool) → not b ≡ true → b ≡ false
      apart true e = sym e
      apart false e = refl

  rows_continue : not k ≡ false → continues 0 (rows_at n p rows) rows ≡ true
  rows_continue h = sym c ∙ holds k h
    where
      holds : (b : Bool) → not b ≡ false → b ≡ true
      holds true e = refl
      holds false e = sym e

  pub rows_judged_lem : not k ≡ false → {j : Result ⊤ Refusal} → j ≡ turn_of (read_in_turn 0 (cut (lengths_in (rows_at n p rows)) p)) → j ≡ turn_of (rows_judged p rows n)
  rows_judged_lem h q = rw (rows_continue h) q

  -- rows that continue each other have lengths that end ahead of them
  pub rows_sum : not k ≡ false → (rows + 4 * n ≤ length p) × (length p ≤ 65535) → sum (lengths_in (rows_at n p rows)) ≤ length p
  rows_sum h l = omega (arith, continues_sum 0 (rows_at n p rows) rows (rows_continue h), l.0)

pub ruleset in_rows = (rows_apart, rows_sum, rows_judged_lem)

-- ---- judge

module _ (p : List ℕ) where
  pub judge_long : most_pack < length p → Err (refusal 1 0) ≡ judged_of p (read_pack p)
  unfolding read_pack
  judge_long h = rw (lt-leb (length p) most_pack h) refl

  module _ (a : length p ≤ most_pack) where
    pub judge_short : length p < 4 → Err (refusal 2 0) ≡ judged_of p (read_pack p)
    unfolding read_pack
    judge_short h = rw (le-leb (length p) most_pack a, lt-leb 4 (length p) h) refl

    module _ (b : 4 ≤ length p) {rows n : ℕ} (e : (rows ≡ number p (length p - 2)) × (rows < 65536)) (f : (n ≡ number p (length p - 4)) × (n < 65536)) where
      -- what is left behind the pack's size, by the numbers that the code has
      behind_size : read_pack p ≡ demand (eqb (rows + 4 * n + 4) (length p)) 26 (rows_judged p rows n)
      unfolding read_pack
      behind_size = rw (le-leb (length p) most_pack a, le-leb 4 (length p) b, e.0, f.0) refl

      pub judge_sum : {r : Refusal} → r ≡ refusal 26 0 → (rows + 4 * n + 4 ≡ length p → ⊥) → Err r ≡ judged_of p (read_pack p)
      judge_sum z h = rw (z, behind_size, ne_eqb (rows + 4 * n + 4) (length p) h) refl

      module _ (g : rows + 4 * n + 4 ≡ length p) {j : Result ⊤ Refusal} (q : j ≡ turn_of (rows_judged p rows n)) where
        -- what is left behind the sum
        behind_sum : read_pack p ≡ rows_judged p rows n
        behind_sum = rw (behind_size, eq-eqb (rows + 4 * n + 4) (length p) g) refl

        pub judge_bad : {r : Refusal} → j ≡ Err r → Err r ≡ judged_of p (read_pack p)
        judge_bad {r} i = rw behind_sum (refusal_passed (λ _. tt) (λ (ts : List Tone). record { messages = length ts; rows = octet_count (first_row p) }) (rows_judged p rows n) (sym i ∙ q))

        pub judge_good : {u : ⊤} → j ≡ Ok u → Ok (record { messages = n; rows = octet_count rows }) ≡ judged_of p (read_pack p)
        judge_good i =
            let a = accepted_there (λ _. tt) (rows_judged p rows n) (sym i ∙ q) in
            let z = behind_sum ∙ a.1 in
            rw z (ap₂ (λ (s r : ℕ). Ok (record { messages = s; rows = octet_count r })) (f.0 ∙ sym (read_count p (met p z))) e.0)

pub ruleset judgings = (judge_long, judge_short, judge_sum, judge_bad, judge_good)

-- ---- read

module _ (p : List ℕ) {j : Result Sound Refusal} (q : j ≡ judged_of p (read_pack p)) where
  module _ {r : Refusal} (g : j ≡ Err r) where
    -- the refusal behind a fault
    faulty_there : read_pack p ≡ refused (number_of r.why) r.place.0
    faulty_there = refusal_there (λ (ts : List Tone). record { messages = length ts; rows = octet_count (first_row p) }) (read_pack p) (pack_numbered p) (sym g ∙ q)

    pub read_refused : ReadPromise p (Err r)
    read_refused = reads p (rw (faulty_there, grounded r.why) refl)

    pub find_refused : (n : ℕ) → FindPromise p n (Err r)
    find_refused n = finds p n (rw (pack_first p n faulty_there, grounded r.why) refl)

  module _ {s : Sound} (g : j ≡ Ok s) where
    -- the tones behind a sound pack
    record SoundThere : Type 0 where
      tones : List Tone
      reads : read_pack p ≡ accepted tones
      many : s.messages ≡ length tones
      first : s.rows.0 ≡ first_row p

    sound_there : SoundThere
    sound_there =
        let a = accepted_there (λ (ts : List Tone). record { messages = length ts; rows = octet_count (first_row p) }) (read_pack p) (sym g ∙ q) in
        record { tones = a.0; reads = a.1; many = ap (λ (x : Sound). x.messages) a.2; first = ap (λ (x : Sound). x.rows.0) a.2 }

    -- as many as the count says, and the rows within the pack
    counted : s.messages ≡ count p
    counted = sound_there.many ∙ read_count p (met p sound_there.reads)

    pub read_sound : ReadPromise p (Ok s.messages)
    read_sound = reads p (rw sound_there.reads (ap Ok sound_there.many))

    pub sound_small : Fits w32 s.messages
    sound_small = let m = met p sound_there.reads in record { fits = omega (arith, counted, m.adds, m.most) }

    module _ {n : ℕ} where
      pub find_none : {r : Refusal} → r ≡ refusal 12 0 → s.messages ≤ n → FindPromise p n (Err r)
      find_none z h = finds p n (rw (z, no_message p n sound_there.reads (rw (← sound_there.many) h)) refl)

      module _ (h : n < s.messages) where
        pub row_start : s.rows.0 + 4 * n + 2 ≤ length p
        row_start = let m = met p sound_there.reads in omega (arith, counted, sound_there.first, m.adds)

        pub row_length : s.rows.0 + 4 * n + 2 + 2 ≤ length p
        row_length = let m = met p sound_there.reads in omega (arith, counted, sound_there.first, m.adds)

        pub row_fits : Fits w64 (s.rows.0 + 4 * n)
        row_fits = let m = met p sound_there.reads in record { fits = omega (arith, row_start, m.most) }

        pub row_on_fits : Fits w64 (s.rows.0 + 4 * n + 2)
        row_on_fits = let m = met p sound_there.reads in record { fits = omega (arith, row_start, m.most) }

        pub find_found : {a l : ℕ} → (a ≡ number p (s.rows.0 + 4 * n)) × (a < 65536) → (l ≡ number p (s.rows.0 + 4 * n + 2)) × (l < 65536) → FindPromise p n (Ok (record { start = octet_count a; length = octet_count l }))
        unfolding nth_row
        find_found {a} {l} x y =
            let e : ltb n (length sound_there.tones) ≡ true = lt-ltb n (length sound_there.tones) (rw (← sound_there.many) h) in
            let r : get_or (rows_in p) n no_row ≡ row_at p (s.rows.0 + 4 * n) = nth_rows_at (count p) p (first_row p) n (rw (← counted) h) ∙ ap (λ (i : ℕ). row_at p (i + 4 * n)) (sym sound_there.first) in
            let w : nth_row p n ≡ accepted (record { start = a; length = l }) = rw (sound_there.reads, e, r) (ap₂ (λ (i k : ℕ). accepted (record { start = i; length = k })) (sym x.0) (sym y.0)) in
            finds p n (ap find_answer (sym w))

pub ruleset findings = (read_refused, find_refused, read_sound, sound_small, find_none, row_start, row_length, row_fits, row_on_fits, find_found)

-- ---- message

module _ (p : Bor (List ℕ)) (n : ℕ) {x : Finding} (q : FindPromise p.now n x) where
  module _ {m : Found} (g : x ≡ Ok m) where
    -- the row behind what was found
    row_there : nth_row p.now n ≡ accepted (record { start = m.start.0; length = m.length.0 })
    row_there =
        let a = accepted_there found_at (nth_row p.now n) (sym g ∙ q.answer) in
        a.1 ∙ ap (λ (y : Found). accepted (record { start = y.start.0; length = y.length.0 })) (sym a.2)

    pub message_ends : m.start.0 + m.length.0 ≤ length p.now
    message_ends = row_inside p.now n row_there

    pub message_fits : Fits w64 (m.start.0 + m.length.0)
    message_fits = record { fits = omega (arith, message_ends, row_short p.now n row_there) }

    pub message_found : MessagePromise p n (record { ref_ptr = (p.ref_ptr.0, m.start.0 + p.ref_ptr.1); now = take (m.start.0 + m.length.0 - m.start.0) (drop m.start.0 p.now) })
    message_found =
        let i : m.start.0 + m.length.0 - m.start.0 ≡ m.length.0 = omega arith in
        record { octets = rw (row_there, i) refl; block = refl; start = rw row_there (add_comm m.start.0 p.ref_ptr.1) }

  pub message_none : {r : Refusal} → x ≡ Err r → MessagePromise p n (record { ref_ptr = (p.ref_ptr.0, 0 + p.ref_ptr.1); now = take (0 - 0) (drop 0 p.now) })
  message_none {r} g =
      let y = refusal_there found_at (nth_row p.now n) (row_numbered p.now n) (sym g ∙ q.answer) in
      record { octets = rw y refl; block = refl; start = rw y (add_comm 0 p.ref_ptr.1) }

pub ruleset handings = (message_ends, message_fits, message_found, message_none)
