-- Small runs, and what is said of them: each definition of Runs with numbers typed out by hand (specification, "Examples" and "What every campaign is held to").
-- Assumes nothing.
use Rattle.std.specs.Prelude.{Bool, true, false, List, [], ◌∷◌, map, ℕ, ◌+◌, length}
use Rattle.base.specs.Lists.{tabulate}
use Rattle.refusals.specs.Answer.{answer_number}
use Rattle.form.specs.Form.{decode}
use Rattle.form.specs.Examples.{square}
use Rattle.opening.specs.Open.{held_to}
use Rattle.opening.specs.Examples.{grand_varies}
use Rattle.records.specs.Record.{CampaignRecord, record_of}
use Rattle.campaign_start.specs.Start.{started}
use Rattle.campaign_draw.specs.Draw.{Asked}
use Rattle.campaign_start.specs.Examples.{single, any}
use Rattle.campaign_draw.specs.Examples.{late, five}
use Rattle.demands.specs.Runs.{draws, last_record, used, accepted, drawn, unused, rounds_of}
use Rattle.demands.specs.Claim.{number_due}

-- what is said of a run: its answers; the rounds completed; of the round that goes on which numbers are used, m, drawn, and what the unused numbers hold, the
-- last two for each cell, row and column and the grand total; drawn over all rounds, for the same; the last record; and the answers due next to draws 0, 1 and
-- 2, and to 1 with no buffer
pub record Said : Type 0 where
  pub answers : List ℕ
  pub rounds : ℕ
  pub which : List Bool
  pub m : ℕ
  pub out : List ℕ
  pub kept : List ℕ
  pub all : List ℕ
  pub end : CampaignRecord
  pub next : List ℕ

-- a run that begins with a record, after so many rounds
pub record Run : Type 0 where
  pub plan : List ℕ
  pub given : CampaignRecord
  pub before : ℕ
  pub list : List Asked
  pub said : Said

abbrev pub ask : ℕ → Asked
ask d = record { number = d; buffer = five }

abbrev pub ask_short : ℕ → Asked
ask_short d = record { number = d; buffer = [] }

abbrev pub said_of : List ℕ → CampaignRecord → ℕ → List Asked → Said
said_of b given before l =
    let p = decode b in
    let run = draws b given l in
    let r = rounds_of p.denominator run in
    record {
      answers = map (λ t. answer_number t.answer) run;
      rounds = length r.completed;
      which = tabulate p.denominator (used r.current);
      m = accepted r.current;
      out = map (drawn p r.current) (held_to p.rows p.columns);
      kept = map (unused p r.current) (held_to p.rows p.columns);
      all = map (drawn p run) (held_to p.rows p.columns);
      end = last_record given run;
      next = map (number_due p (before + length r.completed) r.current) (ask 0 ∷ ask 1 ∷ ask 2 ∷ ask_short 1 ∷ []);
    }

abbrev pub says : List ℕ → ℕ → List Bool → ℕ → List ℕ → List ℕ → List ℕ → CampaignRecord → List ℕ → Said
says answers rounds which m out kept all end next =
    record { answers = answers; rounds = rounds; which = which; m = m; out = out; kept = kept; all = all; end = end; next = next }

-- a run from a start, with a record that held anything, and one that goes on after so many rounds
abbrev pub run : List ℕ → List Asked → Said → Run
run b l s = record { plan = b; given = (started b any).left; before = 0; list = l; said = s }

abbrev pub run_from : CampaignRecord → ℕ → List ℕ → List Asked → Said → Run
run_from given before b l s = record { plan = b; given = given; before = before; list = l; said = s }

abbrev pub runs : List Run
runs =
    run square []
    (says [] 0 (false ∷ false ∷ []) 0
    (0 ∷ 0 ∷ 0 ∷ 0 ∷ 0 ∷ 0 ∷ 0 ∷ 0 ∷ 0 ∷ []) (1 ∷ 1 ∷ 1 ∷ 1 ∷ 2 ∷ 2 ∷ 2 ∷ 2 ∷ 4 ∷ []) (0 ∷ 0 ∷ 0 ∷ 0 ∷ 0 ∷ 0 ∷ 0 ∷ 0 ∷ 0 ∷ [])
    (record_of 0 0 (0 ∷ 6 ∷ []) (0 ∷ 0 ∷ 0 ∷ 0 ∷ 5 ∷ [])) (0 ∷ 0 ∷ 8 ∷ 7 ∷ []))
    ∷ run square (ask_short 1 ∷ ask 0 ∷ ask 0 ∷ ask 2 ∷ [])
    (says (7 ∷ 0 ∷ 10 ∷ 8 ∷ []) 0 (true ∷ false ∷ []) 1
    (0 ∷ 1 ∷ 1 ∷ 0 ∷ 1 ∷ 1 ∷ 1 ∷ 1 ∷ 2 ∷ []) (1 ∷ 0 ∷ 0 ∷ 1 ∷ 1 ∷ 1 ∷ 1 ∷ 1 ∷ 2 ∷ []) (0 ∷ 1 ∷ 1 ∷ 0 ∷ 1 ∷ 1 ∷ 1 ∷ 1 ∷ 2 ∷ [])
    (record_of 1 0 (1 ∷ 6 ∷ []) (0 ∷ 1 ∷ 1 ∷ 0 ∷ 5 ∷ [])) (10 ∷ 0 ∷ 8 ∷ 7 ∷ []))
    -- a round, and two with a draw of the third
    ∷ run square (ask 1 ∷ ask 0 ∷ [])
    (says (0 ∷ 0 ∷ []) 1 (false ∷ false ∷ []) 0
    (0 ∷ 0 ∷ 0 ∷ 0 ∷ 0 ∷ 0 ∷ 0 ∷ 0 ∷ 0 ∷ []) (1 ∷ 1 ∷ 1 ∷ 1 ∷ 2 ∷ 2 ∷ 2 ∷ 2 ∷ 4 ∷ []) (1 ∷ 1 ∷ 1 ∷ 1 ∷ 2 ∷ 2 ∷ 2 ∷ 2 ∷ 4 ∷ [])
    (record_of 0 1 (0 ∷ 6 ∷ []) (1 ∷ 1 ∷ 1 ∷ 1 ∷ 5 ∷ [])) (0 ∷ 0 ∷ 8 ∷ 7 ∷ []))
    ∷ run square (ask 1 ∷ ask 0 ∷ ask 0 ∷ ask 2 ∷ ask 0 ∷ ask 1 ∷ ask 1 ∷ [])
    (says (0 ∷ 0 ∷ 0 ∷ 8 ∷ 10 ∷ 0 ∷ 0 ∷ []) 2 (false ∷ true ∷ []) 1
    (1 ∷ 0 ∷ 0 ∷ 1 ∷ 1 ∷ 1 ∷ 1 ∷ 1 ∷ 2 ∷ []) (0 ∷ 1 ∷ 1 ∷ 0 ∷ 1 ∷ 1 ∷ 1 ∷ 1 ∷ 2 ∷ []) (3 ∷ 2 ∷ 2 ∷ 3 ∷ 5 ∷ 5 ∷ 5 ∷ 5 ∷ 10 ∷ [])
    (record_of 1 2 (2 ∷ 6 ∷ []) (3 ∷ 2 ∷ 2 ∷ 3 ∷ 5 ∷ [])) (0 ∷ 10 ∷ 8 ∷ 7 ∷ []))
    ∷ run grand_varies (ask 1 ∷ [])
    (says (0 ∷ []) 0 (false ∷ true ∷ []) 1
    (0 ∷ 1 ∷ 1 ∷ 0 ∷ 1 ∷ 1 ∷ 1 ∷ 1 ∷ 2 ∷ []) (1 ∷ 0 ∷ 0 ∷ 0 ∷ 1 ∷ 0 ∷ 1 ∷ 0 ∷ 1 ∷ []) (0 ∷ 1 ∷ 1 ∷ 0 ∷ 1 ∷ 1 ∷ 1 ∷ 1 ∷ 2 ∷ [])
    (record_of 1 0 (2 ∷ 6 ∷ []) (0 ∷ 1 ∷ 1 ∷ 0 ∷ 5 ∷ [])) (0 ∷ 10 ∷ 8 ∷ 7 ∷ []))
    -- over D 1 each draw of 0 is a round
    ∷ run (single 1) (ask 0 ∷ ask 0 ∷ ask 1 ∷ [])
    (says (0 ∷ 0 ∷ 8 ∷ []) 2 (false ∷ []) 0
    (0 ∷ 0 ∷ 0 ∷ 0 ∷ []) (1 ∷ 1 ∷ 1 ∷ 1 ∷ []) (2 ∷ 2 ∷ 2 ∷ 2 ∷ [])
    (record_of 0 2 (0 ∷ 6 ∷ []) (2 ∷ 2 ∷ 3 ∷ 4 ∷ 5 ∷ [])) (0 ∷ 8 ∷ 8 ∷ 7 ∷ []))
    -- the thousandth round, and after it
    ∷ run_from late 999 square (ask 1 ∷ ask 0 ∷ ask 0 ∷ ask 2 ∷ ask_short 0 ∷ [])
    (says (0 ∷ 0 ∷ 13 ∷ 8 ∷ 7 ∷ []) 1 (false ∷ false ∷ []) 0
    (0 ∷ 0 ∷ 0 ∷ 0 ∷ 0 ∷ 0 ∷ 0 ∷ 0 ∷ 0 ∷ []) (1 ∷ 1 ∷ 1 ∷ 1 ∷ 2 ∷ 2 ∷ 2 ∷ 2 ∷ 4 ∷ []) (1 ∷ 1 ∷ 1 ∷ 1 ∷ 2 ∷ 2 ∷ 2 ∷ 2 ∷ 4 ∷ [])
    (record_of 0 1000 (0 ∷ []) (1000 ∷ 1000 ∷ 1000 ∷ 1000 ∷ [])) (13 ∷ 13 ∷ 8 ∷ 7 ∷ []))
    ∷ []
