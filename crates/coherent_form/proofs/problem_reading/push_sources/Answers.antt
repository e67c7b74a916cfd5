use Rattle.std.proofs.Common.{◌≡◌, nat_eq, ◌+◌, ◌++◌, map, ap, ◌∙◌, arith}
use Rattle.coherent_form.specs.Gathered.{is_of}
use Rattle.vernacular_tree.specs.Contexts.{counted}
use Rattle.coherent_form.specs.declared.source.Source.TheVariants.{Formula}
use Rattle.indexmap.specs.IndexMap.{get}
use Rattle.coherent_form.proofs.Ranks.{how_many_le, sources_more, ranked_after}
use Rattle.coherent_form.proofs.problem_reading.push_sources.Goals as goal

pub overflow_add-rank : goal.overflow_add-rank
overflow_add-rank c =
    let le = how_many_le (is_of c.args.name) c.args.sources.now.keys in
    let rank = c.rank_of-rank.ensures ∙ c.requires.ranked.counts c.args.name in
    omega arith

pub overflow_add-rank-in-loop-more : goal.overflow_add-rank-in-loop-more
overflow_add-rank-in-loop-more c =
    let le = how_many_le (is_of c.args.name) c.args.sources.now.keys in
    let rank = c.rank_of-rank.ensures ∙ c.requires.ranked.counts c.args.name in
    omega arith

pub overflow_add-rank-2 : goal.overflow_add-rank-2
overflow_add-rank-2 c =
    let le = how_many_le (is_of c.args.name) c.args.sources.now.keys in
    let rank = c.rank_of-rank.ensures ∙ c.requires.ranked.counts c.args.name in
    omega arith

pub loop-more-preserved : goal.loop-more-preserved
loop-more-preserved c = sources_more c.args.sources.now.keys c.args.name c.rank_of-rank.result c.requires.ranked.each
    (c.rank_of-rank.ensures ∙ c.requires.ranked.counts c.args.name) c.loop-more.more c.loop-more.sources.keys c.insert.new.self.keys c.loop-more.invariant c.in_ok-insert.ensures.keys

pub returns-clause-ranked : goal.returns-clause-ranked
returns-clause-ranked c =
    let end : c.loop-more.more ≡ c.args.count = let up = c.loop-more-test.false in let down = c.loop-more.auto.more-end in omega arith in
    ranked_after c.args.sources.now.keys c.args.name c.rank_of-rank.result c.requires.ranked.each
    (c.rank_of-rank.ensures ∙ c.requires.ranked.counts c.args.name) (get nat_eq c.args.ranks.now) (get nat_eq c.insert-2.new.self) c.args.count c.loop-more.sources.keys
    (c.loop-more.invariant ∙ ap (λ n. c.args.sources.now.keys ++ map (Formula c.args.name) (counted (c.rank_of-rank.result + 1) n)) end)
    c.in_ok-insert-2.ensures.updates.0 c.requires.ranked.counts
