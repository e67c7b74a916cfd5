use Rattle.std.proofs.Common.{rules, ◌≡◌, Some}
use Rattle.larus_cli.specs.declared.command.Command.TheVariants.{Demo}
use Rattle.larus_cli.specs.Words.{command_of}
use Rattle.larus_cli.proofs.Naming.{demo_told}
use Rattle.larus_cli.proofs.decide.decide.Goals as goal

pub demonstrate-requires-clause-most : goal.demonstrate-requires-clause-most
demonstrate-requires-clause-most g c =
    let is : command_of c.args.words.now ≡ Some (Demo c.in-Demo.k) = search rules in
    (demo_told c.args.words.now c.in-Demo.k is).1
