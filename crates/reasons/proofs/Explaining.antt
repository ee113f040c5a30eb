-- What holds of the reason of every array of an accepted table. Assumes nothing.
use Rattle.std.specs.Prelude.{None}
use mathlib.Core.Path.{◌≡◌, refl, sym, ap, subst, ◌∙◌}
use mathlib.Core.Bool.{true}
use mathlib.Core.List.Memᴰ
use mathlib.Core.List.Memᴰ.{head as here}
use mathlib.Core.List.{List, map, Memᴰ as Member}
use Prim.Native.Nat.{ℕ, ◌+◌, ◌-◌, ◌*◌, ◌/◌, ◌%◌, ◌≤◌, ◌<◌}
use native.Mathlib.Decide.{dec_lt}
use native.Mathlib.Nat.{mul-pos, zero-div, zero-mod, zero-mul}
use native.Mathlib.Omega.{arith}
use lib.ListN.{length, get_or-map}
use borrow.Author.Tests.{eq-eqb, eqb-true, eqb-false}
use Rattle.base.specs.Lists.{tabulate}
use Rattle.base.specs.Search.{FirstOf}
use Rattle.base.proofs.Searches.{first_found_in, first_append, first_at}
use Rattle.refusals.specs.Due.{due}
use Rattle.refusals.proofs.Dues.{first_none}
use Rattle.table.specs.Table.{total, cell_places, entry_places}
use Rattle.table.specs.Whole.{down}
use Rattle.table.specs.Clauses.{Shape, IsTable}
use Rattle.table.specs.Check.{table_tests, table_refusal}
use Rattle.table.proofs.Checks.{passed_all}
use Rattle.table.proofs.Roundings.{rounds_low, rounds_high, gap_le}
use Rattle.is_rounding.specs.Rounding.{two_ways, is_rounding}
use Rattle.first_rounding.specs.First.{first_rounding}
use Rattle.first_rounding.proofs.Existence.{first_exists}
use Rattle.planning.specs.Rounds.{limit_of, weight_of, Round, round_on, plan_rounds, plan_of}
use Rattle.planning.proofs.Entries.{limit_high}
use Rattle.planning.proofs.GridMembers.{cell_in_lem}
use Rattle.planning.proofs.OneRound.{entry_rounds, attains, weight_most, weight_high}
use Rattle.planning.proofs.Progressing.{Begins, begins, round_is, more_rounds, all_rounds, progress_step, next_weight}
use Rattle.reasons.specs.declared.Entry.{Entry}
use Rattle.reasons.specs.declared.Entry.TheVariants.{Cell, GrandTotal}
use Rattle.reasons.specs.declared.Direction.TheVariants.{Down, Up, AllWhole}
use Rattle.reasons.specs.Reason.{named_entries, places_of, expected_in, count_in, sets, set_by, reason, reason_of}
use Rattle.reasons.specs.Call.{round_at, reason_refusal}
use Rattle.reasons.specs.Explained.{Explained}
use Rattle.reasons.proofs.Naming.{names_places}
use Rattle.reasons.proofs.Telling.{told}
use Rattle.reasons.proofs.Wholes.{all_whole_lem, whole_all}
use Rattle.reasons.proofs.Finding.{arrays_are_rounds, asked_inside}

-- the reason of one round of a remaining table
module _ {r c : ℕ} {g : List ℕ} (s : Shape r c g) (w : ℕ) (wp : 0 < w) where
  abbrev x : Round
  x = round_on r c w g

  rounding : is_rounding (two_ways r c) w g (first_rounding r c w g) ≡ true
  rounding = (first_exists s wp).rounding

  pub first_entry : FirstOf (sets r c x) (named_entries r c) (set_by r c x)
  unfolding set_by
  first_entry =
      let t = attains s w wp _ rounding in
      let m : Member t.at (map (places_of r c) (named_entries r c)) = subst (Member t.at) (sym (names_places r c)) t.member in
      let e = Memᴰ.of_map (places_of r c) (named_entries r c) m in
      let is : limit_of w (expected_in r c x e.0) (count_in r c x e.0) ≡ weight_of r c w g (first_rounding r c w g) =
      ap (λ (p : List ℕ). limit_of w (total g p) (total (first_rounding r c w g) p)) e.2 ∙ sym t.is in
      first_found_in (sets r c x) (named_entries r c) GrandTotal e.1 (eq-eqb _ _ is)

  -- it is an entry of the table, and so its count rounds it
  setter_in : Member (places_of r c (set_by r c x)) (entry_places r c)
  setter_in =
      let f = first_entry in
      let m : Member (set_by r c x) (named_entries r c) = subst (Member (set_by r c x)) (sym f.list) (Memᴰ.append_right f.before (here refl)) in
      subst (Member (places_of r c (set_by r c x))) (names_places r c) (Memᴰ.map (places_of r c) m)

  -- the three cases of a reason
  pub says_down : (e : Entry) → reason_of r c x ≡ reason e Down → count_in r c x e ≡ down w (expected_in r c x e)
  says_down e h =
      let t = told r c x h in
      subst (λ (y : Entry). count_in r c x y ≡ down w (expected_in r c x y)) t.0 (eqb-true _ _ t.1)

  pub says_up : (e : Entry) → reason_of r c x ≡ reason e Up → count_in r c x e ≡ down w (expected_in r c x e) + 1
  says_up e h =
      let t = told r c x h in
      let other : count_in r c x (set_by r c x) ≡ down w (expected_in r c x (set_by r c x)) → ⊥ = eqb-false _ _ t.1 in
      let rounds = entry_rounds s w wp _ rounding setter_in in
      let next : count_in r c x (set_by r c x) ≡ down w (expected_in r c x (set_by r c x)) + 1 =
      omega (arith, other, rounds_low w _ _ rounds, rounds_high w _ _ rounds, gap_le w (expected_in r c x (set_by r c x))) in
      subst (λ (y : Entry). count_in r c x y ≡ down w (expected_in r c x y) + 1) t.0 next

  pub says_whole : (e : Entry) → reason_of r c x ≡ reason e AllWhole → weight_of r c w g (first_rounding r c w g) ≡ w
  says_whole e h = whole_all s w wp (told r c x h).1

  -- where the weight is all that is left, the first cell has it as its limit
  module _ (all : weight_of r c w g (first_rounding r c w g) ≡ w) where
    some_cells : 0 < r * c
    some_cells = mul-pos s.some_rows s.some_columns

    first_limit : sets r c x (Cell (0 / c + 1) (0 % c + 1)) ≡ true
    first_limit =
        let m : Member (cell_places 0) (entry_places r c) = cell_in_lem r c 0 some_cells in
        let k = entry_rounds s w wp _ rounding m in
        let is : limit_of w (total g (cell_places 0)) (total (first_rounding r c w g) (cell_places 0)) ≡ weight_of r c w g (first_rounding r c w g) =
        omega (arith, weight_most s w wp _ rounding m, limit_high w wp _ _ k) in
        rw (zero-div c, zero-mod c, zero-mul c) (eq-eqb _ _ is)

    first_cell : set_by r c x ≡ Cell 1 1
    unfolding set_by named_entries
    first_cell =
        first_append (sets r c x) (tabulate (r * c) (λ k. Cell (k / c + 1) (k % c + 1))) _ GrandTotal
        ∙ first_at (sets r c x) (r * c) (λ k. Cell (k / c + 1) (k % c + 1)) _ 0 some_cells (λ k h. absurd (omega arith)) first_limit
        ∙ rw (zero-div c, zero-mod c) refl

    pub whole_said : reason_of r c x ≡ reason (Cell 1 1) AllWhole
    unfolding reason_of
    whole_said = rw (all_whole_lem s w wp all) (ap (λ (e : Entry). reason e AllWhole) first_cell)

-- every round of the plan
module _ {r c d : ℕ} {g : List ℕ} (t : IsTable r c d g) (k : ℕ) (some : 1 ≤ k) (most : k ≤ length (plan_rounds r c d g)) where
  b : Begins r c d g (k - 1)
  b = begins t (k - 1) (omega arith)

  round : round_at r c d g k ≡ round_on r c b.weight b.left
  round = round_is b.progress b.some _

  arrays : length (plan_of r c d g).arrays ≡ length (plan_rounds r c d g)
  arrays = arrays_are_rounds r c d g

  abbrev y : ℕ
  y = weight_of r c b.weight b.left (first_rounding r c b.weight b.left)

  -- the last round takes all that is left
  last_takes : k ≡ length (plan_of r c d g).arrays → y ≡ b.weight
  unfolding next_weight
  last_takes e = go (dec_lt 0 (b.weight - y))
    where
      go : Dec (0 < b.weight - y) → y ≡ b.weight
      go (yes q) = absurd (omega (arith, arrays, more_rounds (progress_step b.progress b.some) q))
      go (no n) = omega (arith, weight_high b.progress.shape b.weight b.some _ (first_exists b.progress.shape b.some).rounding)

  takes_last : y ≡ b.weight → k ≡ length (plan_of r c d g).arrays
  unfolding next_weight
  takes_last e = omega (arith, arrays, all_rounds (omega arith) (progress_step b.progress b.some))

  pub explained : Explained r c d g k
  unfolding plan_of
  explained = record {
    array = sym (get_or-map (λ x. x.array) (plan_rounds r c d g) (k - 1) _);
    entry = subst (λ (x : Round). FirstOf (sets r c x) (named_entries r c) (set_by r c x)) (sym round) (first_entry b.progress.shape b.weight b.some);
    rounded_down_is = subst (λ (x : Round). (e : Entry) → reason_of r c x ≡ reason e Down → count_in r c x e ≡ down x.left (expected_in r c x e)) (sym round)
        (says_down b.progress.shape b.weight b.some);
    rounded_up = subst (λ (x : Round). (e : Entry) → reason_of r c x ≡ reason e Up → count_in r c x e ≡ down x.left (expected_in r c x e) + 1) (sym round)
        (says_up b.progress.shape b.weight b.some);
    last_whole = λ e. ap (reason_of r c) round ∙ whole_said b.progress.shape b.weight b.some (last_takes e);
    whole_last = λ e h. takes_last (says_whole b.progress.shape b.weight b.some e (sym (ap (reason_of r c) round) ∙ h));
    last_all = λ e. subst (λ (x : Round). x.array.weight ≡ x.left) (sym round) (last_takes e);
    all_last = λ h. takes_last (subst (λ (x : Round). x.array.weight ≡ x.left) round h);
  }

-- of every array that is there
pub every_explained : (r c d : ℕ) (g : List ℕ) (k : ℕ) → reason_refusal r c d g k ≡ None → Explained r c d g k
unfolding reason_refusal table_refusal
every_explained r c d g k h =
    let free : due (table_tests r c d g) ≡ None = first_none (table_tests r c d g) _ h in
    let t : IsTable r c d g = passed_all r c d g free in
    let n = asked_inside t k h in
    explained t k n.0 n.1
