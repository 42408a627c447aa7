use Rattle.std.proofs.Common.{◌<◌, ◌^◌, rules}
use Rattle.code_core.proofs.ApgcodeLemmas.{says_name}
use Rattle.code_core.proofs.apgcode.Apgcode.make.Goals as goal

pub invariant_of-result : goal.invariant_of-result
invariant_of-result c =
    let low : c.args.number < 2 ^ 64 = search rules in
    says_name c.args.kind c.args.number _ _ low c.requires c.in_ok-spelled.ensures

pub returns : goal.returns
returns c = c.in_ok-spelled.ensures
