-- What a host's standard input or a file has left, where it is known.
use Rattle.std.specs.Prelude.{ℕ, List, Option}
use Rattle.real_edge.specs.declared.edge.Incoming.{Incoming}
use Rattle.real_edge.specs.declared.edge.Incoming.TheVariants.{Standard, File}

abbrev pub remaining_of : {R F : Type 0} → (R → Option (List ℕ)) → (F → Option (List ℕ))
    → Incoming R F → Option (List ℕ)
remaining_of of_standard of_file (Standard reader) = of_standard reader
remaining_of of_standard of_file (File file) = of_file file
