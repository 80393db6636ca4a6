-- A script is read exactly where its fields stand.
use Rattle.std.proofs.Common.{◌≡◌, ℕ, zero, suc, ◌+◌, ◌<◌, ◌≤◌, Bool, true, false, cond, nat_lt, ◌==◌, List, [], ◌∷◌, ◌++◌, length, get_or, Ok, Err, refl, sym, subst, arith, append_assoc}
use Rattle.std.{specs.Prelude.flat_map, specs.List.list_all, specs.Int.w8, proofs.lemmas.Bool.le-ltb}
use borrow.Author.Tests.{ltb-true, ltb-false, eqb-true}
use Rattle.cci_codec.specs.dcd_base.{specs.Layouts.Field, specs.Layouts.Number, specs.Layouts.is_byte, proofs.Fields.all_bytes, proofs.Fields.IsBytes}
use Rattle.script_codec.proofs.{FieldLaws.bound, FieldLaws.ok_is, FieldLaws.passed, HeadLaws.with_head, HeadLaws.head_sound, HeadLaws.head_is}
use Rattle.script_codec.proofs.LineLaws.{both, LineStands, line_sound, kind_sound, kind_is, line_is}
use Rattle.script_codec.proofs.Spans.{Spans, spans_then, parted, reads_from_spans, spans_from_reads}
use Rattle.script_codec.{proofs.Writable.both_first, proofs.Writable.both_second, proofs.Writable.counted, proofs.Writable.laned, specs.Fields.◌>>=◌, specs.Heads.head_from}
use Rattle.script_codec.specs.{Lines.kind_from, Lines.line_from, Lines.end_from, Lines.lines_from, Reading.most_bytes, Reading.most_lines, Reading.fields_in, Reading.script_in}
use Rattle.script_codec.specs.{Scripts.line_fields, Scripts.is_sound_line, Scripts.script_head, Scripts.script_fields, Scripts.ReadsScript, declared.faults.ScriptFault.ScriptFault}
use Rattle.script_codec.specs.declared.{script_line.Line.Line, scripts.Script.Script}

pub each_byte : (bytes : List ℕ) → list_all is_byte bytes ≡ true → IsBytes bytes
each_byte [] all = λ i. omega arith
each_byte (x ∷ bytes) all =
    by (ltb-true x 256 (both_first (nat_lt x 256) (list_all is_byte bytes) all)) (each_byte bytes (both_second (nat_lt x 256) (list_all is_byte bytes) all))
  where
    by : x < 256 → IsBytes bytes → (i : ℕ) → get_or (x ∷ bytes) i 0 < 256
    by first rest zero = first
    by first rest (suc i) = rest i

-- the end word
abbrev end_fields : List Field
end_fields = Number w8 0 ∷ []

module _ (bytes : List ℕ) (small : IsBytes bytes) (hosts lanes : ℕ) where
  pub record LinesStand (n at : ℕ) (lines : List Line) : Type 0 where
    pub spans : Spans bytes at (length bytes) (flat_map line_fields lines ++ end_fields)
    pub sound : list_all (is_sound_line hosts lanes) lines ≡ true
    pub few : length lines ≤ n

  ended : (n at : ℕ) (kind : ℕ × ℕ) (lines : List Line) → Spans bytes at kind.1 (Number w8 kind.0 ∷ []) → kind.0 ≡ 0 → end_from bytes kind.1 ≡ Ok lines → LinesStand n at lines
  ended n at kind lines spans zero_is is =
      let p = passed (nat_lt kind.1 (length bytes)) (ScriptFault.AfterEnd kind.1) [] lines is in
      let end : kind.1 ≡ length bytes = omega (arith, spans.all.1, spans.all.0.within, ltb-false kind.1 (length bytes) p.0) in
      subst (λ found. LinesStand n at found) p.1
      (record {
        spans = subst (λ place. Spans bytes at place end_fields) end (subst (λ k. Spans bytes at kind.1 (Number w8 k ∷ [])) zero_is spans);
        sound = refl;
        few = omega arith;
      })

  at_zero : (n at : ℕ) (kind : ℕ × ℕ) (lines : List Line) (test : Bool) → (kind.0 == 0) ≡ test → Spans bytes at kind.1 (Number w8 kind.0 ∷ []) → cond test (end_from bytes kind.1) (Err (ScriptFault.TooManyLines at)) ≡ Ok lines → LinesStand n at lines
  at_zero n at kind lines true e spans is = ended n at kind lines spans (eqb-true kind.0 0 e) is
  at_zero n at kind lines false e spans is = cc

  one_more : (n at : ℕ) (line : Line × ℕ) (rest : List Line) (kind mid : ℕ) → LineStands bytes small hosts lanes mid kind line → Spans bytes at mid (Number w8 kind ∷ []) → LinesStand n line.1 rest → LinesStand (suc n) at (line.0 ∷ rest)
  one_more n at line rest kind mid stands spans others = record {
    spans = subst (λ fields. Spans bytes at (length bytes) fields) (sym (append_assoc (line_fields line.0) (flat_map line_fields rest) end_fields)) (spans_then (stands.spans at spans) others.spans);
    sound = both (is_sound_line hosts lanes line.0) (list_all (is_sound_line hosts lanes) rest) stands.sound others.sound;
    few = omega (arith, others.few);
  }

  pub lines_sound : (n at : ℕ) (lines : List Line) → lines_from n hosts lanes bytes at ≡ Ok lines → LinesStand n at lines
  unfolding lines_from
  lines_sound zero at lines is =
      let kind = bound (kind_from bytes at) _ lines is in
      at_zero zero at kind.value lines (kind.value.0 == 0) refl (kind_sound bytes small hosts lanes at kind.value kind.begun).0 kind.done
  lines_sound (suc n) at lines is =
      let kind = bound (kind_from bytes at) _ lines is in
      let k = kind_sound bytes small hosts lanes at kind.value kind.begun in
      by kind.value (kind.value.0 == 0) refl k.0 k.1 (lines_sound n) kind.done
    where
      by : (kind : ℕ × ℕ) (test : Bool) → (kind.0 == 0) ≡ test → Spans bytes at kind.1 (Number w8 kind.0 ∷ []) → kind.0 ≤ 5 → ((place : ℕ) (rest : List Line) → lines_from n hosts lanes bytes place ≡ Ok rest → LinesStand n place rest) → cond test (end_from bytes kind.1) (line_from kind.0 hosts lanes bytes kind.1 >>= (λ line. lines_from n hosts lanes bytes line.1 >>= (λ rest. Ok (line.0 ∷ rest)))) ≡ Ok lines → LinesStand (suc n) at lines
      by kind true e spans few rest_sound done = ended (suc n) at kind lines spans (eqb-true kind.0 0 e) done
      by kind false e spans few rest_sound done =
          let line = bound (line_from kind.0 hosts lanes bytes kind.1) _ lines done in
          let rest = bound (lines_from n hosts lanes bytes line.value.1) _ lines line.done in
          subst (λ found. LinesStand (suc n) at found) (ok_is _ lines rest.done)
          (one_more n at line.value rest.value kind.0 kind.1 (line_sound bytes small hosts lanes kind.0 kind.1 line.value e few line.begun) spans (rest_sound line.value.1 rest.value rest.begun))

  pub lines_are : hosts ≤ 16 → lanes ≤ 4 → (n at : ℕ) (lines : List Line) → length lines ≤ n → list_all (is_sound_line hosts lanes) lines ≡ true → Spans bytes at (length bytes) (flat_map line_fields lines ++ end_fields) → lines_from n hosts lanes bytes at ≡ Ok lines
  unfolding lines_from
  lines_are few_hosts few_lanes zero at [] few sound spans =
      let done : nat_lt (at + 1) (length bytes) ≡ false = le-ltb (at + 1) (length bytes) (omega (arith, spans.all.1)) in
      rw (kind_is bytes small hosts lanes at 0 spans.all.0 (omega arith), done) refl
  lines_are few_hosts few_lanes (suc n) at [] few sound spans =
      let done : nat_lt (at + 1) (length bytes) ≡ false = le-ltb (at + 1) (length bytes) (omega (arith, spans.all.1)) in
      rw (kind_is bytes small hosts lanes at 0 spans.all.0 (omega arith), done) refl
  lines_are few_hosts few_lanes zero at (line ∷ lines) few sound spans = absurd (omega (arith, few))
  lines_are few_hosts few_lanes (suc n) at (line ∷ lines) few sound spans =
      let whole : Spans bytes at (length bytes) (line_fields line ++ (flat_map line_fields lines ++ end_fields)) = subst (λ fields. Spans bytes at (length bytes) fields) (append_assoc (line_fields line) (flat_map line_fields lines) end_fields) spans in
      let p = parted bytes at (length bytes) (line_fields line) (flat_map line_fields lines ++ end_fields) whole in
      let first = line_is bytes small hosts lanes few_hosts few_lanes at p.mid line (both_first (is_sound_line hosts lanes line) (list_all (is_sound_line hosts lanes) lines) sound) p.front in
      let rest : lines_from n hosts lanes bytes p.mid ≡ Ok lines = lines_are few_hosts few_lanes n p.mid lines (omega (arith, few)) (both_second (is_sound_line hosts lanes line) (list_all (is_sound_line hosts lanes) lines) sound) p.back in
      rw (first.kind_is, first.other, first.line_is, rest) refl

-- ---- whole scripts
fields_sound : (bytes : List ℕ) (s : Script) → IsBytes bytes → length bytes ≤ most_bytes → fields_in bytes ≡ Ok s → ReadsScript bytes s
unfolding fields_in
fields_sound bytes s small short is =
    let head = bound (head_from bytes 0) _ s is in
    let lines = bound (lines_from most_lines head.value.0.config.hosts head.value.0.lanes bytes head.value.1) _ s head.done in
    let h = head_sound bytes small 0 head.value head.begun in
    let ls = lines_sound bytes small head.value.0.config.hosts head.value.0.lanes most_lines head.value.1 lines.value lines.begun in
    subst (λ found. ReadsScript bytes found) (ok_is _ s lines.done)
    (record {
      script = record { versioned = h.lanes_are; configured = h.faultless; based = h.based; sound = ls.sound; few = ls.few };
      reads = reads_from_spans bytes (script_fields (with_head bytes small head.value.0 lines.value)) (all_bytes bytes small)
          (subst (λ fields. Spans bytes 0 (length bytes) fields) (sym (append_assoc (script_head (with_head bytes small head.value.0 lines.value)) (flat_map line_fields lines.value) end_fields))
          (spans_then (h.spans lines.value) ls.spans));
      short = short;
    })

-- bytes that are read as a script read as it by the layout
pub script_sound : (bytes : List ℕ) (s : Script) → IsBytes bytes → script_in bytes ≡ Ok s → ReadsScript bytes s
unfolding script_in
script_sound bytes s small is = by (nat_lt most_bytes (length bytes)) refl is
  where
    by : (test : Bool) → nat_lt most_bytes (length bytes) ≡ test → cond test (Err ScriptFault.TooLong) (fields_in bytes) ≡ Ok s → ReadsScript bytes s
    by true e done = cc
    by false e done = fields_sound bytes s small (ltb-false most_bytes (length bytes) e) done

-- bytes that read as a script by the layout are read as it
pub script_is : (bytes : List ℕ) (s : Script) → ReadsScript bytes s → script_in bytes ≡ Ok s
unfolding script_in fields_in
script_is bytes s reads =
    let small = each_byte bytes reads.reads.in_range in
    let whole : Spans bytes 0 (length bytes) (script_head s ++ (flat_map line_fields s.lines ++ end_fields)) =
    subst (λ fields. Spans bytes 0 (length bytes) fields) (append_assoc (script_head s) (flat_map line_fields s.lines) end_fields) (spans_from_reads bytes (script_fields s) reads.reads) in
    let p = parted bytes 0 (length bytes) (script_head s) (flat_map line_fields s.lines ++ end_fields) whole in
    let not_long : nat_lt most_bytes (length bytes) ≡ false = le-ltb most_bytes (length bytes) reads.short in
    let lines : lines_from most_lines s.config.hosts s.lanes bytes p.mid ≡ Ok s.lines =
    lines_are bytes small s.config.hosts s.lanes (counted s.config reads.script.configured).few_hosts (laned s.version s.lanes reads.script.versioned).few most_lines p.mid s.lines reads.script.few reads.script.sound p.back in
    rw (not_long, head_is bytes small s 0 p.mid reads.script p.front, lines) refl
