use Rattle.larus_cli.proofs.decide.judge_files.Goals as goal

pub returns-clause-decides : goal.returns-clause-decides
returns-clause-decides g c =
    c.judge.ensures.decides c.args.words.now (c.file_names.ensures c.args.wanted c.args.format c.requires.wants c.requires.reads)
