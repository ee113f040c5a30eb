-- What every run is held to (specification, "What every campaign is held to"). Assumes nothing.
use mathlib.Core.Path.{◌≡◌, sym, subst}
use mathlib.Core.List.{List, []}
use Prim.Native.Nat.{ℕ, ◌+◌, ◌*◌}
use native.Mathlib.Nat.{add-mul, one-mul}
use native.Mathlib.Omega.{arith}
use lib.ListN.{length}
use Rattle.table.specs.Table.{total}
use Rattle.weighted_arrays.specs.Plan.{Plan}
use Rattle.form.specs.Form.{decode}
use Rattle.opening.proofs.Sound.{Sound, sound}
use Rattle.records.specs.Record.{CampaignRecord}
use Rattle.campaign_draw.specs.Draw.{Made}
use Rattle.demands.specs.Runs.{drawn, unused, Rounds}
use Rattle.demands.specs.Claim.{Claim}
use Rattle.demands.proofs.Rounds.{balances, inside, completed, none_used, none_drawn}
use Rattle.demands.proofs.Steps.{Holds, RunHolds, drawn_all, fits_run, step_start}
use Rattle.demands.proofs.Runs.{a_number, start_done, start_left, run_holds, run_each, run_asked}

-- over all rounds
all_balance : {p : Plan} {s₀ s : CampaignRecord} {h : List Made} {r : Rounds} → Sound p → Holds p s₀ h r s → (places : List ℕ)
    → drawn p h places + unused p r.current places ≡ (length r.completed + 1) * total p.cells places
all_balance {p} {r = r} o holds places =
    let t = total p.cells places in
    omega (arith, drawn_all o holds places, balances o holds.current places, add-mul (length r.completed) 1 t, one-mul t)

pub claim : Claim
claim b o s₀ l room =
    let plan = sound b o in
    let first = subst (RunHolds (decode b) s₀ [] (record { completed = []; current = [] })) (sym (start_left b o s₀ room))
    (step_start (decode b) s₀ room (a_number b o)) in
    let run = run_holds b o s₀ room first l in
    record {
      start = start_done b o s₀ room;
      asked = run_asked b _ l;
      each = run_each b o s₀ room first l;
      in_turn_is = run.holds.in_turn_is;
      going_on = inside plan run.holds.current;
      number_left = run.left;
      completed = λ c m. let f = run.holds.completed c m in completed plan f.spent f.full;
      at_most = run.few;
      over = λ e. let none = run.over e in (none_used plan run.holds.current none, none, none_drawn plan run.holds.current none);
      over_all = all_balance plan run.holds;
      after_list = run.holds.claim;
      still_fits = fits_run plan run;
    }
