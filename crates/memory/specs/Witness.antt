-- The witness that memory was refused.
use Rattle.std.specs.Prelude.{alloc_error}
use Rattle.memory.specs.declared.OutOfMemory.{OutOfMemory}

-- the witness that memory was refused; all such witnesses are equal
pub out_of_memory : OutOfMemory
out_of_memory = record { refused = alloc_error }
