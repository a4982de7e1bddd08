-- The posts of an origin as they are kept.
use Rattle.fw_replace.specs.Own.{OwnValue}
use Rattle.fw_replace.specs.declared.own.OwnPosts.TheInside.{Inside}

abbrev pub own_view : Inside → OwnValue
own_view o = record { posts = o.posts.items; rows = o.rows }
