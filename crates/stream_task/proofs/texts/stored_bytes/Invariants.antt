use Rattle.std.proofs.Common.{◌≡◌, ◌+◌, ◌-◌, ◌^◌, ◌≤◌, min, drop}
use Rattle.stream_task.specs.Texts.{stored_bytes}
use Rattle.stream_task.proofs.texts.stored_bytes.Given as goal

-- what was counted, with the bytes of the texts that are left
abbrev pub invariant-loop-text : goal.invariant-loop-text
invariant-loop-text l = record {
  counted : min (l.bytes + stored_bytes (drop l.text-index l.texts)) (2 ^ 64 - 1) ≡ min (stored_bytes l.texts) (2 ^ 64 - 1);
  fits : l.bytes ≤ 2 ^ 64 - 1;
}
