use Rattle.std.proofs.Common.{◌≡◌, arith, codes, length, refl}
use Rattle.census.specs.Program.{not_text_line}
use Rattle.census.proofs.program.end_with_unread_arguments.Goals as goal

pub returns-in_default-clause-tells_usage : goal.returns-in_default-clause-tells_usage
returns-in_default-clause-tells_usage g c usage =
    let long : length (codes "census: the words are not UTF-8") ≡ 31 = refl in
    record {
      text = not_text_line;
      says = record { prefix = codes "census: the words are not UTF-8"; some = omega (arith, long); ended = refl };
      line = c.end_with_not_text.ensures.line;
    }
