use Rattle.std.proofs.Common.{◌≡◌, arith, rules, ltb, nat_le, nat_lt, true, false}
use Rattle.std.proofs.lemmas.Bool.Decides.{nat_tests}
use Rattle.std.proofs.lemmas.List.Sorted.{IsPartitionPoint-from_clause, IsPartitionedBy-ltb}
use Rattle.act_super.proofs.SpanFacts.{back_is, front_is}
use Rattle.act_image.proofs.turned.below.Goals as goal

pub returns-clause-front : goal.returns-clause-front
returns-clause-front c =
    let parted = IsPartitionedBy-ltb (λ k. k) _ c.args.bound c.requires in
    let point = IsPartitionPoint-from_clause (λ k. ltb k c.args.bound) _ _ c.partition_point.ensures.partitioned parted (λ a r q k. search rules) in
    front_is (λ k. ltb k c.args.bound) c.args.keys.now c.partition_point.result point.0 point.1 c.partition_point.ensures.bound

pub returns-clause-back : goal.returns-clause-back
returns-clause-back c =
    let parted = IsPartitionedBy-ltb (λ k. k) _ c.args.bound c.requires in
    let point = IsPartitionPoint-from_clause (λ k. ltb k c.args.bound) _ _ c.partition_point.ensures.partitioned parted (λ a r q k. search rules) in
    back_is (λ k. ltb k c.args.bound) (λ k. nat_le c.args.bound k) (off c.args.bound) (on c.args.bound) c.args.keys.now c.partition_point.result point.0 point.1 c.partition_point.ensures.bound
  where
    off : (b x : _) → nat_lt x b ≡ true → nat_le b x ≡ false
    off b x h = grind (arith, nat_tests)

    on : (b x : _) → nat_lt x b ≡ false → nat_le b x ≡ true
    on b x h = grind (arith, nat_tests)
