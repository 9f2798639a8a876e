-- Request 2 of document 02: what the five operators cost with each fitted set, where 13 stands, and that the choice goes by these prices.
use Rattle.std.specs.Prelude.{ℕ, List, [], ◌∷◌, ◌++◌, map}
use Rattle.card.specs.Card.{Answer.accepted, Answer.refused}
use Rattle.gates.specs.Records.{gate_at}
use Rattle.pricing.specs.Prices.{gate_price, price_answer}
use Rattle.choice.specs.Choice.{choose_answer}
use Rattle.cases.specs.Cases.{Case, answer_is, numbers_are, C1, C2, N, D, E, no_control, x0}

-- with the set s, the prices of C1 C2 N D E without a control
abbrev prices_with : ℕ → List ℕ
prices_with s = map (λ o. gate_price 2 s (gate_at (x0 o no_control) 0)) (C1 ∷ C2 ∷ N ∷ D ∷ E ∷ [])

-- N on x0 with a control of value 0 on each other line of six
abbrev dearest : List ℕ
dearest = N ∷ 0 ∷ 3 ∷ 0 ∷ 0 ∷ 0 ∷ 0 ∷ 0 ∷ []

abbrev three_c1 : List ℕ
three_c1 = x0 C1 no_control ++ x0 C1 no_control ++ x0 C1 no_control

abbrev two_e : List ℕ
two_e = x0 E no_control ++ x0 E no_control

-- E and then C2 make what D does
abbrev pair_for_d : List ℕ
pair_for_d = x0 E no_control ++ x0 C2 no_control

abbrev pub set_cases : List Case
set_cases =
    -- D, E, D and E, N, D and N, E and N, all
    numbers_are (prices_with 1) (1 ∷ 1 ∷ 2 ∷ 1 ∷ 2 ∷ [])
    ++ numbers_are (prices_with 2) (1 ∷ 1 ∷ 2 ∷ 2 ∷ 1 ∷ [])
    ++ numbers_are (prices_with 3) (1 ∷ 1 ∷ 2 ∷ 1 ∷ 1 ∷ [])
    ++ numbers_are (prices_with 4) (1 ∷ 1 ∷ 1 ∷ 2 ∷ 2 ∷ [])
    ++ numbers_are (prices_with 5) (1 ∷ 1 ∷ 1 ∷ 1 ∷ 2 ∷ [])
    ++ numbers_are (prices_with 6) (1 ∷ 1 ∷ 1 ∷ 2 ∷ 1 ∷ [])
    ++ numbers_are (prices_with 7) (1 ∷ 1 ∷ 1 ∷ 1 ∷ 1 ∷ [])
    -- five controls of another value: 75 and 10, and 1 for the gate
    ++ answer_is (price_answer 6 2 4 dearest) (accepted (85 ∷ []))
    ++ answer_is (price_answer 6 2 3 dearest) (accepted (86 ∷ []))
    -- 13 stands behind 1 and 10, and before 6
    ++ answer_is (price_answer 7 3 0 (0 ∷ [])) (refused 1 0)
    ++ answer_is (price_answer 1 3 0 (0 ∷ [])) (refused 10 0)
    ++ answer_is (price_answer 1 2 0 (0 ∷ [])) (refused 13 0)
    ++ answer_is (price_answer 1 2 8 (0 ∷ [])) (refused 13 0)
    ++ answer_is (price_answer 1 2 7 (0 ∷ [])) (refused 6 0)
    ++ answer_is (choose_answer 1 2 0 (0 ∷ []) []) (refused 13 0)
    -- less cost: two E are the cheaper where E is fitted
    ++ answer_is (choose_answer 1 2 7 three_c1 two_e) (accepted (2 ∷ []))
    ++ answer_is (choose_answer 1 2 1 three_c1 two_e) (accepted (1 ∷ []))
    -- with E alone D costs as much as the pair: fewer gates
    ++ answer_is (choose_answer 1 2 2 pair_for_d (x0 D no_control)) (accepted (2 ∷ []))
    ++ answer_is (choose_answer 1 2 2 (x0 D no_control) pair_for_d) (accepted (1 ∷ []))
    -- as many of both: the first
    ++ answer_is (choose_answer 1 2 2 two_e two_e) (accepted (1 ∷ []))
