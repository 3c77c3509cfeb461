use Rattle.std.proofs.Common.{rules}
use Rattle.decimals.proofs.Numerals.{room}
use Rattle.decimals.proofs.digits.Digits.push.Goals as goal

pub overflow_mul-result : goal.overflow_mul-result
overflow_mul-result c = let h = room c.args.self.magnitude c.args.self.count 17 c.args.self.small (search rules) in search rules

pub overflow_add-result : goal.overflow_add-result
overflow_add-result c = let h = room c.args.self.magnitude c.args.self.count 17 c.args.self.small (search rules) in search rules
