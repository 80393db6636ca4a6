use Rattle.std.proofs.Common.{◌∙◌, ◌++◌, List, ℕ, take, drop, replicate, ap, sym, append_assoc}
use Rattle.std.proofs.lemmas.{List.drop-drop, Simd.put_chunk_is}
use Rattle.granule_map.proofs.marks.fill_4.Goals as goal

pub returns : goal.returns
returns c =
    let bytes = c.args.bytes.now in
    let from = c.args.from in
    let lanes = replicate 4 c.args.byte in
    put_chunk_is from bytes lanes c.requires
    ∙ sym (append_assoc (take from bytes) lanes (drop 4 (drop from bytes)))
    ∙ ap (λ (ys : List ℕ). take from bytes ++ lanes ++ ys) (drop-drop 4 from bytes)
