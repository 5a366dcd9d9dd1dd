use Rattle.std.proofs.Common.{◌++◌, ◌<◌, ℕ, get_or, take, drop, sym, ap, ◌∙◌, arith, length, length-take, length-drop}
use Rattle.std.specs.Int.{w32, to_le_bytes}
use Rattle.command_line.proofs.JobBytes.{job_parts}
use Rattle.command_line.proofs.words.job_of.Goals as goal

pub returns : goal.returns
returns c =
    let bytes = c.args.bytes.now in
    let fits : (i : ℕ) → get_or bytes i 0 < 256 = λ i. omega (arith, c.type_inv.bytes i) in
    record {
      prev_hash = ap length c.hash_of.ensures ∙ simp length-take (omega (arith, c.requires));
      root = ap length c.hash_of-2.ensures ∙ simp (length-take, length-drop) (omega (arith, c.requires));
      nbits = c.from_le_bytes.type_inv;
      parts =
          job_parts bytes c.requires c.from_le_bytes.result fits c.from_le_bytes.ensures
          ∙ ap (λ l. l ++ (take 32 (drop 32 bytes) ++ to_le_bytes w32 c.from_le_bytes.result)) (sym c.hash_of.ensures)
          ∙ ap (λ l. c.hash_of.result ++ (l ++ to_le_bytes w32 c.from_le_bytes.result)) (sym c.hash_of-2.ensures);
    }

pub slice_bounds-hash_of-end : goal.slice_bounds-hash_of-end
slice_bounds-hash_of-end c = sym (simp length-take (omega (arith, c.requires)))
