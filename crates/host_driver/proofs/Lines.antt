-- The lines of the others, one more at a time.
use Rattle.std.proofs.Common.{◌≡◌, ℕ, ◌+◌, List, [], ◌∷◌, ◌++◌, length, ap, ◌∙◌, append-nil, arith}
use Rattle.std.{specs.Prelude.flat_map, specs.List.enumerate_from, proofs.lemmas.Grind.flat_map-append}
use Rattle.dcd_base.specs.declared.ids.HostId.{HostId}
use Rattle.report.specs.script_codec.specs.declared.script_line.Line.{Line}
use Rattle.host_driver.specs.Journals.{line_of_others, lines_of_others}

numbered-push : (n : ℕ) (xs : List Line) (x : Line) → enumerate_from n (xs ++ x ∷ []) ≡ enumerate_from n xs ++ (n + length xs, x) ∷ []
numbered-push n [] x = ap (λ k. (k, x) ∷ []) (omega arith)
numbered-push n (y ∷ xs) x =
    ap (λ rest. (n, y) ∷ rest) (numbered-push (n + 1) xs x ∙ ap (λ k. enumerate_from (n + 1) xs ++ (k, x) ∷ []) (omega arith))

pub lines-push : (hosts : ℕ) (h : HostId) (xs : List Line) (x : Line)
    → lines_of_others hosts h (xs ++ x ∷ []) ≡ lines_of_others hosts h xs ++ line_of_others hosts h (length xs + 1, x)
lines-push hosts h xs x =
    ap (flat_map (line_of_others hosts h)) (numbered-push 1 xs x)
    ∙ flat_map-append (line_of_others hosts h) (enumerate_from 1 xs) ((1 + length xs, x) ∷ [])
    ∙ ap (λ new. lines_of_others hosts h xs ++ new) (append-nil (line_of_others hosts h (1 + length xs, x)))
    ∙ ap (λ k. lines_of_others hosts h xs ++ line_of_others hosts h (k, x)) (omega arith)
