use Rattle.std.proofs.Common.{◌≢◌, ◌<◌, ℕ, sym, ap, ◌∙◌, subst}
use Rattle.ruled_cells.proofs.ClosingSteps.{alone, values_are, closed_rests, closed_accounts, closed_no_others}
use Rattle.ruled_cells.specs.{Seats.seat_number, Seats.seat_view, Turning.IsIn}
use Rattle.ruled_cells.proofs.cells.Cells.close_into.Goals as goal

pub close-requires-clause-alone : goal.close-requires-clause-alone
close-requires-clause-alone g c = subst (λ t. (i : ℕ) → i < t.me.0.among → i ≢ t.me.0.number → IsIn i t.me.0.joined) (sym c.into_token.ensures)
    (alone c.args.self c.args.seats.items c.gather-last.result c.requires.all c.gather-last.ensures.of.0 c.gather-last.ensures.each)

pub unpack-requires-clause-kept : goal.unpack-requires-clause-kept
unpack-requires-clause-kept g c = values_are _ _ _ _ _ _ _ _ c.close.ensures.settled.2

pub returns-clause-rest : goal.returns-clause-rest
returns-clause-rest g c = closed_rests _ _ _ _ _ _ _ _ c.close.ensures.settled.2 _ _ c.unpack.ensures

pub returns-clause-calls : goal.returns-clause-calls
returns-clause-calls g c = λ k s e. closed_accounts _ _ _ _ _ _ _ _ c.close.ensures.settled.2 _ _ c.unpack.ensures (ap (λ t. t.me.0.client.spent) c.into_token.ensures ∙ c.gather-last.result.used)
    c.gather-last.result.token.me (ap (λ t. t.me.0.client) (sym c.into_token.ensures)) (seat_number s) (seat_view s) (c.gather-last.ensures.each k s e)

pub returns-clause-no_others : goal.returns-clause-no_others
returns-clause-no_others g c = closed_no_others _ _ _ _ _ _ _ _ c.close.ensures.settled.2 _ _ c.unpack.ensures _ (ap (λ t. t.me.0.among) c.into_token.ensures ∙ c.gather-last.ensures.of.0.among)
