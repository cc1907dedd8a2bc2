use Rattle.std.proofs.Common.{◌≡◌, [], drop, append-nil, arith}
use Rattle.std.proofs.lemmas.List.{drop_all}
use Rattle.ip_ext_headers.proofs.appending.append.Goals as goal

pub returns : goal.returns
returns g c =
    let from = c.args.from.now in
    let none : drop c.append_blocks.result from ≡ [] = drop_all c.append_blocks.result from (omega (arith, c.append_blocks.ensures.left)) in
    cc (append-nil c.append_blocks.new.to.items, c.append_blocks.ensures.appended, c.append_blocks-done.ensures.appended, c.append_blocks-done-2.ensures.appended, c.append_blocks-done-3.ensures.appended)
