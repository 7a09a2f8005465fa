-- The grounds of getting tones out, in 02's order, and what is enough to lend.
use Prim.Native.Nat.{ℕ, ◌≤◌, ◌<◌}
use native.Mathlib.Omega.{arith}
use mathlib.Core.Path.{◌≡◌, refl, subst}
use mathlib.Core.Logic.{◌⊎◌, inl, inr, ⊎_elim, ◌↔◌}
use mathlib.Core.Bool.{Bool, true, false}
use mathlib.Core.List.{List}
use lib.ListN.{length}
use lib.Dec.{leb}
use borrow.Author.Tests.{le-leb, lt-leb, leb-true, leb-false}
use Rattle.bits.specs.Outcome.{Outcome, accepted, refused, demand}
use Rattle.pack.specs.Pack.{most_pack}
use Rattle.salvage.specs.Salvage.{counting, pieces, skipped_in, Salvaged, salvaged, into_room, salvage}
use Rattle.salvage.specs.Answers.{all_kept}
use Rattle.salvage.proofs.Pieces.{kept_least}
use Rattle.salvage.proofs.Putting.{length_new_report}
use Rattle.salvage.proofs.Ends.{all_long}

module _ (s : Salvaged) (room cells : ℕ) where
  abbrev n : ℕ
  n = length s.pack

  abbrev k : ℕ
  k = length s.report

  -- 1 comes first, whatever room there is
  pub long_first : most_pack < length s.pack → into_room s room cells ≡ refused 1 0
  unfolding into_room
  long_first h = rw (lt-leb n most_pack h) refl

  -- then 11 for the pack
  pub pack_room_lem : length s.pack ≤ most_pack → room < length s.pack → into_room s room cells ≡ refused 11 0
  unfolding into_room
  pack_room_lem h l = rw (le-leb n most_pack h, lt-leb n room l) refl

  -- and for the report
  pub report_room_lem : length s.pack ≤ most_pack → length s.pack ≤ room → cells < length s.report → into_room s room cells ≡ refused 11 0
  unfolding into_room
  report_room_lem h l i = rw (le-leb n most_pack h, le-leb n room l, lt-leb k cells i) refl

  -- else it is accepted
  pub both_fit : length s.pack ≤ most_pack → length s.pack ≤ room → length s.report ≤ cells → into_room s room cells ≡ accepted s
  unfolding into_room
  both_fit h l i = rw (le-leb n most_pack h, le-leb n room l, le-leb k cells i) refl

  -- what an outcome says: what is accepted came out and fits, and what is refused has its ground
  abbrev pub RoomSays : Outcome Salvaged → Type 0
  RoomSays (accepted t) = (t ≡ s) × (length s.pack ≤ most_pack) × (length s.pack ≤ room) × (length s.report ≤ cells)
  RoomSays (refused i f) = (f ≡ 0) × (((i ≡ 1) × (most_pack < length s.pack)) ⊎ ((i ≡ 11) × (length s.pack ≤ most_pack) × ((room < length s.pack) ⊎ (cells < length s.report))))

  pub room_says : RoomSays (into_room s room cells)
  unfolding into_room
  room_says = go (leb n most_pack) refl (leb n room) refl (leb k cells) refl
    where
      go : (x : Bool) → leb n most_pack ≡ x → (y : Bool) → leb n room ≡ y → (z : Bool) → leb k cells ≡ z → RoomSays (demand x 1 (demand y 11 (demand z 11 (accepted s))))
      go false a y b z c = (refl, inl (refl, leb-false n most_pack a))
      go true a false b z c = (refl, inr (refl, leb-true n most_pack a, inl (leb-false n room b)))
      go true a true b false c = (refl, inr (refl, leb-true n most_pack a, inr (leb-false k cells c)))
      go true a true b true c = (refl, leb-true n most_pack a, leb-true n room b, leb-true k cells c)

  -- it is accepted exactly if the pack is not too long and both fit
  pub room_exactly : (into_room s room cells ≡ accepted s) ↔ ((length s.pack ≤ most_pack) × (length s.pack ≤ room) × (length s.report ≤ cells))
  room_exactly = (λ e. let a = subst RoomSays e room_says in (a.1, a.2, a.3), λ a. both_fit a.0 a.1 a.2)

-- ---- what is enough to lend

-- a pack that is not too long has at most 5,460 messages, so that its report has at most 16,381 numbers
pub report_most : (c : List ℕ) → length (salvaged c).pack ≤ most_pack → length (salvaged c).report ≤ 16381
unfolding salvaged
report_most c h = omega (arith, h, all_long c, kept_least c, length_new_report (all_kept c) (skipped_in (pieces c)))

-- with 65,535 octets and 16,381 numbers lent it is never 11
pub never_eleven : (p : List ℕ) (room cells : ℕ) → 65535 ≤ room → 16381 ≤ cells → {f : ℕ} → salvage p room cells ≡ refused 11 f → ⊥
never_eleven p room cells h l {f} e =
    let s = salvaged (counting p) in
    ⊎_elim (λ a. omega (arith, a.0)) (λ a. ⊎_elim (λ b. omega (arith, a.1, b)) (λ b. omega (arith, report_most (counting p) a.1, b)) a.2) (subst (RoomSays s room cells) e (room_says s room cells)).1
