use Rattle.std.proofs.Common.{◌≡◌, ◌++◌, arith, ap, length, map, min, sym, ◌∙◌}
use Rattle.std.proofs.Math.Facts.{Fits-of_lt}
use Rattle.fm_payloads.specs.ManagerPayloads.{tags_payload}
use Rattle.journal_core.specs.Entries.{effects}
use Rattle.tag_refs.specs.Tables.{tag_view}
use Rattle.device_state.specs.device_rules.specs.{Settings.page, TagCommands.tag_seen, Tags.open_tags}
use Rattle.manager_commands.proofs.{Drafting.payload_alone, TagReadings.tags_length, TagReadings.tags_seen, ListPages.page_map, Reached.few_entries, Rows.kept_rule, Rows.not_below}
use Rattle.manager_commands.proofs.dynamic_capacity_list_tags.list_tags.Goals as goal

pub overflow_cast-total : goal.overflow_cast-total
overflow_cast-total c = Fits-of_lt (omega (arith, c.len-total.ensures.len, few_entries c.args.config.now c.args.state.now c.requires.reached))

pub returns : goal.returns
returns c journal legal kept =
    let cfg = c.args.config.now in
    let entries = c.args.state.now.tags.entries in
    let sound = c.requires.reached.sound in
    let total : length (open_tags cfg (effects journal)) ≡ c.len-total.result = tags_length cfg journal entries sound legal kept.tags_are ∙ sym c.len-total.ensures.len in
    let seen : map tag_view (page c.args.first (min c.args.count 84) entries) ≡ map (tag_seen cfg (effects journal)) (page c.args.first (min c.args.count 84) (open_tags cfg (effects journal))) =
    sym (page_map tag_view c.args.first (min c.args.count 84) entries) ∙ ap (page c.args.first (min c.args.count 84)) (sym (tags_seen cfg journal entries sound legal kept.tags_are))
    ∙ page_map (tag_seen cfg (effects journal)) c.args.first (min c.args.count 84) (open_tags cfg (effects journal)) in (
      kept_rule _ _ (not_below _ _ (omega (arith, total, c.if-first-total.false))),
      payload_alone _ _ c.only.result c.only.ensures
          (c.in_ok-write_tags.ensures.appended ∙ ap (λ bytes. bytes ++ tags_payload c.args.first c.len-total.result c.as_slice.result.now) c.new-payload.ensures
          ∙ ap (λ n. tags_payload c.args.first n c.as_slice.result.now) (sym total)
          ∙ ap (tags_payload c.args.first (length (open_tags cfg (effects journal)))) (c.as_slice.ensures ∙ c.in_ok-views.ensures.views ∙ ap (λ n. map tag_view (page c.args.first n entries)) c.min.ensures ∙ seen)),
    )
