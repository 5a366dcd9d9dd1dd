use Rattle.std.proofs.Common.{◌≡◌, ◌^◌, ◌≤◌, ℕ, List, ◌++◌, length}
use Rattle.sv2_frames.specs.Holding.{IsCutWithin}
use Rattle.stream_programs.specs.Tracking.{HasListedFrames}
use Rattle.stream_programs.proofs.lister.ListerStreamCommand.read.Given as goal

abbrev pub invariant-loop-rest : goal.invariant-loop-rest
invariant-loop-rest l = record {
  cut : IsCutWithin l.self.splitter;
  read : (front : List ℕ) × (front ++ l.rest ≡ l.piece) × ((bytes given : List ℕ) → length (bytes ++ l.piece) ≤ 2 ^ 40
      → HasListedFrames bytes (given ++ l.initial.text.items) l.initial.self → HasListedFrames (bytes ++ front) (given ++ l.text.items) l.self);
}

abbrev pub decreases-loop-rest : goal.decreases-loop-rest
decreases-loop-rest l = length l.rest
