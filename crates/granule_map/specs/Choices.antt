-- Runs of numbers: the lowest, the longest, the joined.
use Rattle.std.specs.Prelude.{ℕ, ◌+◌, ◌-◌, max, Bool, ◌&&◌, ◌==◌, nat_le, List, [], ◌∷◌, map, take, filter, fold, find, Option, if◌then◌else◌}
use Rattle.std.specs.List.{range_with_len, prefix_len}

-- a number joins the run that begins right behind it, where the two may stand together
abbrev pub joined_onto : (ℕ → ℕ → Bool) → ℕ → List (ℕ × ℕ) → List (ℕ × ℕ)
joined_onto together n [] = (n, 1) ∷ []
joined_onto together n (r ∷ runs) =
    if (r.0 == n + 1) && together n (n + 1) then (n, r.1 + 1) ∷ runs else (n, 1) ∷ r ∷ runs

-- rising numbers as the longest runs, each by its first number and its length
abbrev pub joined : (ℕ → ℕ → Bool) → List ℕ → List (ℕ × ℕ)
joined together [] = []
joined together (n ∷ ns) = joined_onto together n (joined together ns)

-- of the numbers below a limit, those that pass a test
abbrev pub passing : (ℕ → Bool) → ℕ → List ℕ
passing test limit = filter test (range_with_len 0 limit)

-- of the numbers from one up to a limit the lowest that pass, at most so many
abbrev pub lowest_from : (ℕ → Bool) → ℕ → ℕ → ℕ → List ℕ
lowest_from test limit from most = take most (filter test (range_with_len from (limit - from)))

-- how many from one on pass, up to the limit
abbrev pub run_from : (ℕ → Bool) → ℕ → ℕ → ℕ
run_from test limit n = prefix_len test (range_with_len n (limit - n))

-- the most that pass from any on
abbrev pub longest_run : (ℕ → Bool) → ℕ → ℕ
longest_run test limit = fold max 0 (map (run_from test limit) (range_with_len 0 limit))

-- the lowest place where a run of this length begins
abbrev pub lowest_run : (ℕ → Bool) → ℕ → ℕ → Option ℕ
lowest_run test limit n = find (λ k. nat_le n (run_from test limit k)) (range_with_len 0 limit)
